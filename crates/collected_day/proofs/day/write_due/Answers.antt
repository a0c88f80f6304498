use Rattle.std.proofs.Common.{◌∙◌}
use Rattle.event_writer.proofs.Written.{none_written}
use Rattle.collected_day.proofs.Writing.{whole_written, front_written}
use Rattle.collected_day.proofs.day.write_due.Goals as goal

pub take_due-requires : goal.take_due-requires
take_due-requires g c = record { due = c.requires.due }

pub returns-in-Err-clause-written : goal.returns-in-Err-clause-written
returns-in-Err-clause-written g c = λ day owner end h. none_written _ _ _

pub returns-in-Ok-write_text-clause-written : goal.returns-in-Ok-write_text-clause-written
returns-in-Ok-write_text-clause-written g c = λ day owner end h.
    whole_written _ (c.deref.ensures.value ∙ (c.in-Ok.ensures day owner end h).text) c.in-Ok-write_text.ensures

pub returns-in-Ok-write_text-clause-handled : goal.returns-in-Ok-write_text-clause-handled
returns-in-Ok-write_text-clause-handled g c = λ day owner end h.
    let taken = c.in-Ok.ensures day owner end h in
    record { handled = taken.handled; kinds = taken.kinds; links = taken.links }

pub returns-clause-written : goal.returns-clause-written
returns-clause-written g c = λ day owner end h.
    front_written (c.deref.ensures.value ∙ (c.in-Ok.ensures day owner end h).text) c.in-Err-write_text.ensures
