use Rattle.std.proofs.Common.{◌+◌, ◌<◌, ◌≤◌, map, length, take, sym, ap, ◌∙◌, arith}
use Rattle.std.proofs.lemmas.List.{length-set, length-take, drop-set-lt, take-set-le}
use Rattle.valuation.specs.Three.{or_else}
use Rattle.valuation.specs.Circuit.{both, reads, values_of}
use Rattle.valuation.proofs.Walked.{walk_more, walk_all}
use Rattle.circuit.specs.Gates.{pairs}
use Rattle.circuit.proofs.Records.{length_pairs, pair_at, reads_below}
use Rattle.circuit.proofs.Circuit.walk.Goals as goal

pub gate_value-requires : goal.gate_value-requires
gate_value-requires g c =
    let n : c.args.self.first + c.loop-k.k ≤ length (take (c.args.self.first + c.loop-k.k) c.loop-k.values) = simp length-take (omega arith) in
    let p = reads_below c.args.self.gates.now c.args.self.first c.loop-k.k _ _ c.args.self.ascending c.loop-k-test.true n in
    record { left = p.0; right = p.1 }

pub loop-k-preserved : goal.loop-k-preserved
loop-k-preserved g c =
    let node = c.args.self.first + c.loop-k.k in
    let below : node < c.args.self.first + length c.args.self.gates.now = omega arith in (
      length-set _ _ _ ∙ c.loop-k.invariant.0,
      λ k h. walk_more (λ v. g.K.Kind.at v k) (pairs c.args.self.gates.now) (reads c.args.forced.now) c.loop-k.values c.args.self.first c.loop-k.k
          (values_of (pairs c.args.self.gates.now) (reads c.args.forced.now) (map (λ v. g.K.Kind.at v k) (take c.args.self.first c.args.values.now)))
          c.gate_value.result (omega (arith, length_pairs c.args.self.gates.now)) (omega arith)
          (c.gate_value.ensures k h
          ∙ ap (λ q. or_else (reads c.args.forced.now node) (both (reads (map (λ v. g.K.Kind.at v k) (take node c.loop-k.values))) q)) (sym (pair_at c.args.self.gates.now c.loop-k.k _ c.loop-k-test.true)))
          (c.loop-k.invariant.1 k h),
      drop-set-lt _ _ _ _ below ∙ c.loop-k.invariant.2,
      take-set-le _ _ _ _ (omega arith) ∙ c.loop-k.invariant.3,
    )

pub returns : goal.returns
returns g c = record {
  walked = λ k h. walk_all (λ v. g.K.Kind.at v k) (pairs c.args.self.gates.now) (reads c.args.forced.now) c.loop-k.values c.args.self.first c.loop-k.k _ _
      (omega arith) (omega (arith, length_pairs c.args.self.gates.now)) (c.loop-k.invariant.1 k h);
  inputs = c.loop-k.invariant.3;
  beyond = c.loop-k.invariant.2;
}
