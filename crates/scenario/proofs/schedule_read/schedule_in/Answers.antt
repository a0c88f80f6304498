use Rattle.scenario.proofs.{Common.schedule_fault, Common.texts_of, ScheduleFiles.departures_told, ScheduleFiles.routes_told, ScheduleFiles.schedule_none}
use Rattle.scenario.{proofs.ScheduleFiles.schedule_is, proofs.Told.first_stop, specs.Faults.TellsFile}
use Rattle.scenario.proofs.schedule_read.schedule_in.Goals as goal

pub returns-in-Err : goal.returns-in-Err
unfolding TellsFile schedule_fault
returns-in-Err c = first_stop c.in-Err.error _ _ c.in-Err.ensures

pub returns-in-Err-routes_in : goal.returns-in-Err-routes_in
unfolding TellsFile
returns-in-Err-routes_in c =
    routes_told c.args.links.now c.args.ends.now (texts_of c.args.files.now) c.in-Ok.stops c.in-Ok.ensures c.in-Err-routes_in.error c.in-Err-routes_in.ensures

pub returns-in-Err-departures_in : goal.returns-in-Err-departures_in
unfolding TellsFile
returns-in-Err-departures_in c =
    departures_told c.args.links.now c.args.ends.now (texts_of c.args.files.now) c.in-Ok.stops c.in-Ok.ensures
    c.in-Ok-routes_in.routes c.in-Ok-routes_in.ensures c.in-Err-departures_in.error c.in-Err-departures_in.ensures

pub returns-in-Ok-departures_in : goal.returns-in-Ok-departures_in
unfolding TellsFile
returns-in-Ok-departures_in c =
    let T = texts_of c.args.files.now in
    let S = c.in-Ok.stops in
    let R = c.in-Ok-routes_in.routes in
    let departures = c.in-Ok-departures_in in (
      schedule_none c.args.links.now c.args.ends.now T S c.in-Ok.ensures R c.in-Ok-routes_in.ensures departures.ensures.0,
      schedule_is c.args.links.now c.args.ends.now T S c.in-Ok.ensures R c.in-Ok-routes_in.ensures departures.departures departures.ensures.1,
    )
