use Rattle.std.proofs.Common.{◌∙◌, ap, length, subst, List, ℕ}
use Rattle.writing.specs.Writing.{placed}
use Rattle.devices.specs.Forms.{problem_of}
use Rattle.planner.specs.PlanCall.{Verdict, plan_verdict, WorkKept}
use Rattle.planner.proofs.PlanLaws.{kept, verdict-served}
use Rattle.report.proofs.ReportLaws.{text-refuses, text-unplanned, text-planned}
use Rattle.report.proofs.text_lines.Goals as goal
use Rattle.report.proofs.text_lines.Goals.{After-plan_device}

-- what planning leaves of the working numbers
used : (c : After-plan_device) → WorkKept (plan_verdict c.args.text.now (length c.args.work.now)) c.args.work.now c.plan_device.new.work
used c =
    subst (λ (v : Verdict). WorkKept v c.args.work.now c.plan_device.new.work) (verdict-served c.args.text.now (length c.args.work.now) (problem_of c.in-Ok.d) c.in-Ok.ensures c.requires.1) c.plan_device.ensures.work_kept

pub refused_line-requires : goal.refused_line-requires
refused_line-requires c = (c.requires.0, (text-refuses c.args.text.now c.in-Err.refusal c.in-Err.ensures).0)

pub returns-in-Err : goal.returns-in-Err
returns-in-Err c =
    let same = (text-refuses c.args.text.now c.in-Err.refusal c.in-Err.ensures).1 in
    record {
      value = c.refused_line.ensures.value ∙ ap length same;
      out_after = c.refused_line.ensures.out_after ∙ ap (λ (l : List ℕ). placed 0 l c.args.out.now) same;
      work_kept = kept _ c.args.work.now;
    }

pub plan_lines-requires-clause-labels_low : goal.plan_lines-requires-clause-labels_low
plan_lines-requires-clause-labels_low c =
    let p = text-planned c.args.text.now (problem_of c.in-Ok.d) c.in-Ok.ensures c.in-Ok-plan_device.set c.in-Ok-plan_device.ensures.value in
    rw c.labels.ensures.value (p.1, p.0)

pub returns-in-Ok-plan_device : goal.returns-in-Ok-plan_device
returns-in-Ok-plan_device c =
    let same = (text-planned c.args.text.now (problem_of c.in-Ok.d) c.in-Ok.ensures c.in-Ok-plan_device.set c.in-Ok-plan_device.ensures.value).2 in
    record {
      value = c.plan_lines.ensures.value ∙ rw c.labels.ensures.value (ap length same);
      out_after = c.plan_lines.ensures.out_after ∙ rw c.labels.ensures.value (ap (λ (l : List ℕ). placed 0 l c.args.out.now) same);
      work_kept = used (goal.at.returns-in-Ok-plan_device c).After-plan_device;
    }

pub refused_line-requires-in-Err-plan_device : goal.refused_line-requires-in-Err-plan_device
refused_line-requires-in-Err-plan_device c =
    (c.requires.0, (text-unplanned c.args.text.now (problem_of c.in-Ok.d) c.in-Ok.ensures c.in-Err-plan_device.refusal c.in-Err-plan_device.ensures.value).0)

pub returns-in-Err-plan_device : goal.returns-in-Err-plan_device
returns-in-Err-plan_device c =
    let same = (text-unplanned c.args.text.now (problem_of c.in-Ok.d) c.in-Ok.ensures c.in-Err-plan_device.refusal c.in-Err-plan_device.ensures.value).1 in
    record {
      value = c.refused_line-in-Err-plan_device.ensures.value ∙ ap length same;
      out_after = c.refused_line-in-Err-plan_device.ensures.out_after ∙ ap (λ (l : List ℕ). placed 0 l c.args.out.now) same;
      work_kept = used (goal.at.returns-in-Err-plan_device c).After-plan_device;
    }
