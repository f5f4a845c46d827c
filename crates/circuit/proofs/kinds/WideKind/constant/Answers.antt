use Rattle.std.proofs.Common.{sym, ap, ◌∙◌, ap₂}
use Rattle.valuation.specs.Rails.{on, of_rails}
use Rattle.valuation.proofs.Masks.{on_none, on_all}
use Rattle.circuit.proofs.kinds.WideKind.constant.Goals as goal
use Rattle.circuit.proofs.kinds.WideKind.constant.Goals.{in-Unknown, in-False, in-True}

pub returns : goal.returns
returns c = λ k h.
    elim c.match-value.branch [
      | in-Unknown w ↦ ap₂ of_rails (ap (λ r. on r.0 k) w.result-is ∙ on_none k) (ap (λ r. on r.1.0 k) w.result-is ∙ on_none k) ∙ sym w.in-Unknown.is
      | in-False w ↦ ap₂ of_rails (ap (λ r. on r.0 k) w.result-is ∙ on_none k) (ap (λ r. on r.1.0 k) w.result-is ∙ on_all k h) ∙ sym w.in-False.is
      | in-True w ↦ ap (λ b. of_rails b (on c.match-value.result.1.0 k)) (ap (λ r. on r.0 k) w.result-is ∙ on_all k h) ∙ sym w.in-True.is
    ]
