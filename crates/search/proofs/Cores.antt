-- In a sound query, more forced nodes and more settings say more. Assumes nothing.
use Rattle.std.proofs.Common.{◌≡◌, ℕ, ◌+◌, ◌-◌, ◌/◌, ◌<◌, ◌≤◌, Bool, true, false, cond, eqb, ltb, List, length, sym, refl, ap, ◌∙◌, inl, inr, arith}
use Rattle.std.proofs.lemmas.List.{get_or_past}
use Rattle.std.proofs.lemmas.Bool.{cases_lt, cases_eq, eq-eqb, ne_eqb, lt-ltb, le-ltb, cond-true, cond-false}
use Rattle.valuation.specs.declared.Value.{Value}
use Rattle.valuation.specs.declared.Value.TheVariants.{Unknown, False}
use Rattle.valuation.specs.Three.{Below, Agree}
use Rattle.valuation.specs.Circuit.{Values, nothing, negated, reads, settings_from, node_values}
use Rattle.valuation.proofs.Order.{below_same, below_signed, below_known}
use Rattle.valuation.proofs.Computed.{equations_hold}
use Rattle.valuation.proofs.Witness.{core_more}
use Rattle.search.specs.Queries.{Query, Sound, nodes, values_under, root_under}

-- settings by node lie below where those by place do
settings_below : (start : ℕ) (s t : List Value) → ((k : ℕ) → Below (reads s k) (reads t k)) → (n : ℕ) → Below (settings_from start s n) (settings_from start t n)
settings_below start s t h n = by (eqb n 0) (ltb n start)
  where
    by : (z b : Bool) → Below (cond z False (cond b Unknown (reads s (n - start)))) (cond z False (cond b Unknown (reads t (n - start))))
    by true b = below_same False False refl
    by false true = below_same Unknown Unknown refl
    by false false = h (n - start)

module _ (q : Query) (sound : Sound q) where
  -- the play that the forced nodes come from sets nothing that a setting of the range sets
  agrees : (t : List Value) → length t ≤ q.free → (n : ℕ) → Agree (sound.play n) (settings_from q.start t n)
  agrees t short n a b =
      elim (cases_eq n 0) [
        | inl zero' ↦ ap sound.play zero' ∙ sound.witness.constant ∙ sym (cond-true (eqb n 0) False _ (eq-eqb n 0 zero'))
        | inr some ↦
            let inner = cond-false (eqb n 0) False (cond (ltb n q.start) Unknown (reads t (n - q.start))) (ne_eqb n 0 some) in
            elim (cases_lt n q.start) [
              | inl low ↦ absurd (b (inner ∙ cond-true (ltb n q.start) Unknown _ (lt-ltb n q.start low)))
              | inr high ↦
                  elim (cases_lt (n - q.start) (length t)) [
                    | inl inside ↦ absurd (a (ap sound.play (let place : n ≡ q.start + (n - q.start) = omega arith in place) ∙ sound.witness.unset (n - q.start) (omega arith)))
                    | inr past ↦ absurd (b (inner ∙ cond-false (ltb n q.start) Unknown _ (le-ltb n q.start high) ∙ get_or_past t (n - q.start) Unknown past))
                  ]
            ]
      ]

  -- C and D are some of the forced nodes, C among D
  pub more : (C D : Values) (s t : List Value) → ((n : ℕ) → n < nodes q → Below (C n) (D n)) → ((n : ℕ) → n < nodes q → Below (D n) (reads q.forced n)) →
      ((k : ℕ) → Below (reads s k) (reads t k)) → length t ≤ q.free → (n : ℕ) → n < nodes q → Below (values_under q C s n) (values_under q D t n)
  more C D s t cd df st short =
      let first = 1 + q.variables in
      core_more first q.gates C D sound.play (settings_from q.start s) (settings_from q.start t) (reads (node_values first q.gates nothing sound.play)) (values_under q C s) (values_under q D t)
      sound.ascending (equations_hold first q.gates nothing sound.play sound.ascending).1
      (λ n lt known. let e : reads q.forced n ≡ D n = below_known (D n) (reads q.forced n) (df n lt) known in sound.witness.gives n lt (λ u. known (sym e ∙ u)) ∙ e)
      (λ n lt. agrees t short n)
      (equations_hold first q.gates C (settings_from q.start s) sound.ascending).1 (equations_hold first q.gates D (settings_from q.start t) sound.ascending).1
      cd (λ n lt. settings_below q.start s t st n)

  -- so what is refuted stays refuted
  pub stays_refuted : (C D : Values) (s t : List Value) → ((n : ℕ) → n < nodes q → Below (C n) (D n)) → ((n : ℕ) → n < nodes q → Below (D n) (reads q.forced n)) →
      ((k : ℕ) → Below (reads s k) (reads t k)) → length t ≤ q.free → root_under q C s ≡ False → root_under q D t ≡ False
  stays_refuted C D s t cd df st short h = below_signed (negated q.root) _ _ (more C D s t cd df st short (q.root / 2) sound.rooted) true h
