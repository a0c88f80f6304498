use Rattle.step_core.{proofs.Putting.put_there, specs.Wheels.due_in}
use Rattle.step_core.proofs.hearing.send_to.Goals as goal

pub returns : goal.returns
returns g c = let put = c.put.ensures in let nothing = g.T.Part.nothing in
    put_there nothing (due_in c.args.wheel.now c.args.second c.args.number) c.args.number c.args.parcel c.args.wheel.now c.put.new.self
    c.requires.few c.requires.noted.whole put.parcels (put.noted nothing c.requires.noted) put.lags
