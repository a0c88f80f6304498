use Rattle.event_pipe.proofs.Calls.{looked_on, producer_looked_on, meets_free}
use Rattle.event_pipe.proofs.consumers.know_all.Goals as goal

pub returns-clause-producer : goal.returns-clause-producer
returns-clause-producer g c =
    producer_looked_on c.args.producer.now c.slots_beside.new.self c.slots_beside-2.new.producer c.slots_beside.ensures.looked
    c.slots_beside-2.ensures.producer

pub returns-clause-ring : goal.returns-clause-ring
returns-clause-ring g c =
    looked_on c.args.ring.now c.slots_beside.new.consumer c.slots_beside-2.new.self c.slots_beside.ensures.consumer
    c.slots_beside-2.ensures.looked

pub returns-clause-places : goal.returns-clause-places
returns-clause-places g c =
    meets_free c.slots_beside.new.self c.slots_beside-2.new.producer c.slots_beside.new.consumer c.slots_beside-2.new.self
    c.slots_beside.result c.slots_beside.ensures.all_free c.slots_beside.ensures.value c.slots_beside-2.ensures.producer
    c.slots_beside-2.ensures.looked c.slots_beside-2.ensures.fifo
