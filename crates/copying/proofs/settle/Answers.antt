use Rattle.std.proofs.Common.{◌≡◌, ℕ, ◌+◌, ◌≤◌, List, ◌++◌, length, take, drop, replicate, sym, refl, ap, ◌∙◌, subst, arith, rules}
use Rattle.std.proofs.lemmas.Result.{err_from_is_err_and}
use Rattle.std.proofs.lemmas.List.{length-take, length-take-le, take-append-drop}
use Rattle.circuit.specs.Gates.{pairs}
use Rattle.circuit.proofs.Records.{length_pairs, pairs_take}
use Rattle.valuation.specs.Circuit.{Ascending}
use Rattle.copying.specs.Places.{none}
use Rattle.copying.proofs.Settling.{needs_shown, settled_answer, settled_table, stopped_answer, stopped_table}
use Rattle.copying.proofs.settle.Goals as goal

-- a list whose first n entries are y, after these were filled with y again
refilled : {X : Type 0} (y : X) (n k : ℕ) (xs zs : List X) → k ≡ n → take n xs ≡ replicate n y → zs ≡ replicate k y → zs ++ drop n xs ≡ xs
refilled y n k xs zs e a b = ap (λ ws. ws ++ drop n xs) (b ∙ ap (λ j. replicate j y) e ∙ sym a) ∙ take-append-drop n xs

pub invariant_of-circuit : goal.invariant_of-circuit
invariant_of-circuit c = record {
  ascending = subst (Ascending c.args.first) (sym (pairs_take c.args.used c.args.gates.now)) c.requires.ascending;
  countable = simp length-take (omega (arith, c.requires.small));
}

pub returns-in_err-root : goal.returns-in_err-root
returns-in_err-root c =
    let gs = c.args.gates.now in
    let n = c.args.first + c.args.used in
    let cs = c.need_inputs.new.copies in
    let room : c.args.used ≤ length (pairs gs) = omega (arith, length_pairs gs) in
    let long : length cs ≡ n = c.need_inputs.auto.copies ∙ c.need_core.auto.copies ∙ length-take-le n c.args.copies.now c.requires.work in
    let shows = needs_shown c.args.first c.args.used gs c.args.lost (take n c.args.copies.now) c.need_core.new.copies cs c.requires.used c.requires.clear
    c.need_core.ensures c.need_inputs.ensures c.need_core.auto.copies in
    let S = c.in_err-root.ensures in
    let p = err_from_is_err_and c.from_residual.result c.from_residual.ensures.1 in
    let table = stopped_table _ c.make_gates-root.new.making c.args.lost cs c.args.first c.args.used (pairs gs) refl refl refl refl room long shows S c.requires.blank in
    let name = S.grown.name_is in
    record {
      answer = stopped_answer _ c.make_gates-root.new.making c.args.lost cs c.args.first c.args.used (pairs gs) refl refl refl refl room long shows S c.from_residual.result p.0 p.1;
      table = search (rules, table, name);
      work = refilled none n _ c.args.copies.now c.fill.new.self (c.make_gates-root.auto.copies ∙ long) c.requires.clear (c.fill.ensures.after (λ y h. search rules));
    }

pub returns : goal.returns
returns c =
    let gs = c.args.gates.now in
    let n = c.args.first + c.args.used in
    let cs = c.need_inputs.new.copies in
    let room : c.args.used ≤ length (pairs gs) = omega (arith, length_pairs gs) in
    let long : length cs ≡ n = c.need_inputs.auto.copies ∙ c.need_core.auto.copies ∙ length-take-le n c.args.copies.now c.requires.work in
    let shows = needs_shown c.args.first c.args.used gs c.args.lost (take n c.args.copies.now) c.need_core.new.copies cs c.requires.used c.requires.clear
    c.need_core.ensures c.need_inputs.ensures c.need_core.auto.copies in
    let A = c.in_ok-root.ensures in
    let table = settled_table _ c.make_gates-root.new.making c.args.lost cs c.args.first c.args.used (pairs gs) refl refl refl refl room long shows c.in_ok-root.field-0 A in
    let name = A.grown.name_is in
    record {
      answer = settled_answer _ c.make_gates-root.new.making c.args.lost cs c.args.first c.args.used (pairs gs) refl refl refl refl room long shows c.in_ok-root.field-0 A c.commit.result c.commit.ensures.made;
      table = search (rules, table, name);
      work = refilled none n _ c.args.copies.now c.fill.new.self (c.make_gates-root.auto.copies ∙ long) c.requires.clear (c.fill.ensures.after (λ y h. search rules));
    }
