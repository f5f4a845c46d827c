use Rattle.std.proofs.Common.{◌≡◌, ◌+◌, ◌*◌, List, map, length, take, ap, ap₂, sym, ◌∙◌, arith, rules}
use Rattle.std.proofs.lemmas.List.{length-take, length-map, take_at}
use Rattle.valuation.specs.Circuit.{lit, reads, values_of, input_values, settings_from}
use Rattle.valuation.specs.Rails.{on, case_value, is_false}
use Rattle.valuation.specs.Three.{of_bool}
use Rattle.circuit.specs.declared.kinds.Wide.{Wide}
use Rattle.circuit.specs.declared.Gate.{Gate}
use Rattle.valuation.specs.declared.Value.{Value}
use Rattle.circuit.specs.Gates.{pairs}
use Rattle.counting.specs.Counting.{setting}
use Rattle.counting.proofs.Cases.{length_setting}
use Rattle.counting.proofs.Digits.{on_without}
use Rattle.counting.proofs.Inputs.{setting_at}
use Rattle.counter.proofs.open_cases.Goals as goal

pub returns : goal.returns
returns c = λ i h.
    let t = 64 * c.args.group + i in
    let settings = map of_bool (setting c.args.free t) in
    let in_case : Wide → Value = λ v. case_value v.trues v.falses i in
    let counted : length settings ≡ c.args.free = length-map (setting c.args.free t) of_bool ∙ length_setting c.args.free t in
    let set = c.set_inputs_by.ensures i settings h (record { counted = counted; each = λ k x lt e. let v : in_case x ≡ of_bool (on t k) = search rules in v ∙ sym (setting_at c.args.free t k lt) }) in
    let k = c.circuit-circuit.ensures in
    let first = c.circuit-circuit.result.first in
    let front : length (take first c.args.values.now) ≡ first = simp length-take (omega arith) in
    let inputs = ap (map in_case) (take_at c.set_inputs_by.new.inputs _ first (c.set_inputs_by.auto.inputs ∙ front)) ∙ set ∙ ap (λ n. input_values n (reads c.args.forced.now) (settings_from c.args.ask.start settings)) front in
    let root = λ (gs : List Gate) (vs : List Value). lit (reads (values_of (pairs gs) (reads c.args.forced.now) vs)) c.args.ask.root.code in
    on_without c.cases_that_count.result c.false_cases.result i _ _ c.false_cases.type_inv h (c.cases_that_count.ensures i h)
    (c.false_cases.ensures i ∙ ap is_false (c.evaluate-root.ensures.value i h ∙ ap₂ root k.gates (inputs ∙ ap (λ n. input_values n (reads c.args.forced.now) (settings_from c.args.ask.start settings)) k.first)))
