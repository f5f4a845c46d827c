use Rattle.std.proofs.Common.{◌≡◌, ℕ, ◌+◌, ◌-◌, ◌/◌, ◌<◌, List, [], ◌∷◌, length, get_or, refl, sym, ap, ◌∙◌, arith, rules}
use Rattle.std.proofs.lemmas.Grind.{get_or_default_zero}
use Rattle.valuation.specs.Circuit.{lit, reads}
use Rattle.circuit.specs.Gates.{pairs, empty}
use Rattle.circuit.proofs.Records.{length_pairs, pair_at, reads_below}
use Rattle.splitting.specs.Blame.{passes}
use Rattle.splitting.specs.Worklist.{noted}
use Rattle.splitting.proofs.Listed.{flag_count_le}
use Rattle.splitting.proofs.Marking.{blaming_start, blaming_ready, blaming_same, blaming_forced, blaming_input, blaming_gate, blaming_end}
use Rattle.splitter.proofs.blaming.Blame.mark.Goals as goal
use Rattle.splitter.proofs.blaming.Blame.mark.Goals.{then-ne, else-ne+then-node-circuit, else-ne+else-node-circuit}

-- what is read of the list
read_is : (xs : List ℕ) (i x : ℕ) → i < length xs → x ≡ get_or xs i x → get_or xs i 0 ≡ x
read_is xs i x h e = sym (get_or_default_zero xs i x h) ∙ sym e

pub loop-done-init : goal.loop-done-init
loop-done-init c =
    let k = c.args.circuit in
    let p = length_pairs k.gates.now in
    let root = c.args.root.code / 2 in
    let F = reads c.args.forced.now in
    let v = reads c.args.values.now in
    let one = c.note.ensures ∙ ap (noted (c.node.result ∷ [])) c.requires.empty ∙ ap (λ n. n ∷ []) c.node.ensures in
    blaming_ready k.first (pairs k.gates.now) F v root k.ascending c.requires.input (omega arith) _ _ _ _ _ (omega arith)
    (blaming_same k.first (pairs k.gates.now) F v root refl one (blaming_start k.first (pairs k.gates.now) F v root c.args.marks.now))

pub pass_on-requires : goal.pass_on-requires
pass_on-requires c =
    let k = c.args.circuit in
    let s = c.loop-done.self in
    let node = c.index-node.result.now in
    let less : c.loop-done.done < length s.order.items = omega (arith, s.order.ok.0) in
    let inside : node < length c.args.forced.now = omega (arith, read_is s.order.items c.loop-done.done node less c.index-node.ensures, c.loop-done.invariant.0 less) in
    let r = reads_below k.gates.now k.first (node - k.first) (length c.args.values.now) empty k.ascending (omega (arith, c.if-node-circuit.true)) (omega (arith, c.if-node-circuit.true)) in
    record { left = r.0; right = r.1; room = c.requires.room }

pub loop-done-preserved : goal.loop-done-preserved
loop-done-preserved c =
    let k = c.args.circuit in
    let p = length_pairs k.gates.now in
    let gs = pairs k.gates.now in
    let F = reads c.args.forced.now in
    let v = reads c.args.values.now in
    let root = c.args.root.code / 2 in
    let s = c.loop-done.self in
    let order = s.order.items in
    let done = c.loop-done.done in
    let node = c.index-node.result.now in
    let less : done < length order = omega (arith, s.order.ok.0) in
    let is = read_is order done node less c.index-node.ensures in
    let inside : node < k.first + length k.gates.now = omega (arith, c.loop-done.invariant.0 less) in
    let b = c.loop-done.invariant.1 in
    blaming_ready k.first gs F v root k.ascending c.requires.input (omega arith) _ _ _ _ _ (omega arith)
    (elim c.if-ne.branch [
      | then-ne w ↦ blaming_same k.first gs F v root w.marks-is (ap (λ t. t.order.items) w.self-is)
          (blaming_forced k.first gs F v root c.args.marks.now c.loop-done.marks order done b node is less (let h = w.if-ne.ensures in search rules) (omega arith))
      | else-ne+then-node-circuit w ↦
          let i : node - k.first < length k.gates.now = omega (arith, w.if-node-circuit.true) in
          let g = pair_at k.gates.now (node - k.first) empty i in
          blaming_same k.first gs F v root w.marks-is (ap (λ t. t.order.items) w.self-is ∙ w.pass_on.ensures ∙ ap (λ q. noted (passes (v node) (lit v q.left) q) order) (sym g))
          (blaming_gate k.first gs F v root c.args.marks.now c.loop-done.marks order done b node is less (node - k.first) (omega (arith, w.if-node-circuit.true)) (let h = w.if-ne.ensures in search rules))
      | else-ne+else-node-circuit w ↦ blaming_same k.first gs F v root w.marks-is (ap (λ t. t.order.items) w.self-is)
          (blaming_input k.first gs F v root c.args.marks.now c.loop-done.marks order done b node is less (let h = w.if-ne.ensures in search rules) w.if-node-circuit.false)
    ])

pub loop-done-smaller : goal.loop-done-smaller
loop-done-smaller c =
    let s = c.loop-done.self in
    omega (arith, s.order.ok.0, s.seen.ok.0, s.wide, s.counted, flag_count_le s.seen.items)

pub returns-clause-marks : goal.returns-clause-marks
returns-clause-marks c =
    let k = c.args.circuit in
    let p = length_pairs k.gates.now in
    blaming_end k.first (pairs k.gates.now) (reads c.args.forced.now) (reads c.args.values.now) (c.args.root.code / 2) k.ascending c.requires.input (omega arith)
    c.args.marks.now c.loop-done.marks c.loop-done.self.order.items c.loop-done.done (omega arith) (omega arith) (omega (arith, c.loop-done.self.order.ok.0)) c.loop-done.invariant.1
