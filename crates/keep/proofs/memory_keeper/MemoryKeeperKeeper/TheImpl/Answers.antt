use Rattle.keep.proofs.MemoryLaws.{save_tells, last_tells, load_tells}
use Rattle.keep.proofs.memory_keeper.MemoryKeeperKeeper.TheImpl.Goals as goal

pub save-tells : goal.save-tells
save-tells c =
    let told = save_tells _ _ _ _ c.ensures.fails c.ensures.saves in
    record { ok = told.ok; err = told.err; cause = told.cause }

pub last-tells : goal.last-tells
last-tells c =
    let told = last_tells c.args.self.now _ _ c.ensures.fails c.ensures.tells c.ensures.counted in
    record { last = told.last; ok = told.ok; err = told.err; cause = told.cause }

pub load-tells : goal.load-tells
load-tells c =
    let told = load_tells c.args.self.now _ _ _ c.ensures.counted _ c.ensures.fails c.ensures.loads in
    record { loads = told.loads; ok = told.ok; err = told.err; cause = told.cause }
