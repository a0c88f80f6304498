use Rattle.std.specs.Prelude.{IfOk}
use Rattle.std.proofs.Common.{◌≡◌, ℕ, List, Vec, Global, string_bytes, ap, refl, subst}
use Rattle.qsim_top.{proofs.Ending.not_of_words, specs.Answer.report, specs.declared.answers.Answer.Answer}
use Rattle.qsim_top.specs.declared.answers.Status.TheVariants as status
use Rattle.qsim_top.proofs.top.tell.Goals as goal

pub returns-clause-done : goal.returns-clause-done
returns-clause-done g c =
    c.carry_out.ensures.done (report c.args.status (string_bytes c.args.text))
    (subst (λ (l : List ℕ). IfOk c.report-answer.result (λ (a : Answer). a ≡ report c.args.status l))
    (ap (λ (v : Vec ℕ Global). v.items) c.into_bytes.ensures.value) c.report-answer.ensures.answer)

pub returns-clause-kept : goal.returns-clause-kept
returns-clause-kept g c =
    let did = c.carry_out.ensures.done (report c.args.status c.into_bytes.result.items) c.report-answer.ensures.answer in
    not_of_words c.args.status c.carry_out.result status.KeepFault c.requires refl refl did.ends
