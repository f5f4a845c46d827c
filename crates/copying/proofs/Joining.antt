-- The joins, one literal of the core after the other.
use Rattle.std.proofs.Common.{◌≡◌, ℕ, ◌+◌, ◌-◌, ◌*◌, ◌/◌, ◌<◌, ◌≤◌, List, [], ◌∷◌, ◌++◌, length, Some, None, Option, sym, refl, ap, ◌∙◌, subst, arith}
use Rattle.std.proofs.lemmas.List.FromFn.{get_or-map-range_with_len}
use Rattle.std.proofs.lemmas.List.{append-nil, length-append, length-take-le}
use Rattle.std.specs.Option.{unwrap_or}
use Rattle.circuit.specs.declared.Literal.{Literal}
use Rattle.circuit.specs.Gates.{pairs}
use Rattle.circuit.proofs.Records.{length_pairs}
use Rattle.valuation.specs.Circuit.{Pair}
use Rattle.copies.specs.Copy.{opposite, like}
use Rattle.copies.specs.Make.{fresh, core_copy, Join}
use Rattle.copies.proofs.Counted.{join_counts}
use Rattle.copies.proofs.Making.{opposite_half}
use Rattle.copies.proofs.Passes.{join_next, join_push}
use Rattle.copying.specs.declared.guard.Making.{Making}
use Rattle.copying.specs.declared.places.Copies.{Copies}
use Rattle.copying.specs.Gates.{olds, codes, join_gates, join_code, OneJoined, all_joined, CoreJoined, CoreStopped}
use Rattle.copying.specs.Places.{copy_code}
use Rattle.copying.specs.Guard.{Grown, Stopped}
use Rattle.copying.proofs.Entries.{grown_more, stopped_after}

-- what is joined of some literals, if there are any
abbrev pub if_any : List ℕ → ℕ → Option Literal
if_any [] e = None
if_any (l ∷ ls) e = Some (record { code = e })

-- the literals so far are joined to e
pub record SoFar (m m' : Making) (cs : List Copies) (core : List ℕ) (e : Option Literal) : Type 0 where
  pub made : List Pair
  pub grown : Grown m m' made
  pub joins : (m₀ : Making) (hs : List Pair) → m₀.made ≡ 0 → Grown m₀ m hs → Grown m₀ m' (all_joined m₀ cs core hs).gates × (e ≡ if_any core (all_joined m₀ cs core hs).literal)

-- the copy of a core's literal
pub copy_core : (cs : List Copies) (l x p : ℕ) → l / 2 < length cs → p ≡ opposite l → x ≡ like l (copy_code cs p) → x ≡ core_copy (codes cs) l
copy_core cs l x p h a b =
    b ∙ ap (like l) (ap (copy_code cs) a ∙ sym (get_or-map-range_with_len (copy_code cs) 0 (2 * length cs) (opposite l) (opposite l) 0 (omega (arith, opposite_half l)) (omega arith)))

-- the literal of the next gate
pub next_literal : (m₀ m : Making) (hs : List Pair) → m₀.made ≡ 0 → Grown m₀ m hs → 2 * (m.first + m.used + m.made) ≡ fresh m₀.first (olds m₀) hs
next_literal m₀ m hs z G =
    let l = length-take-le m₀.used (pairs m₀.gates.now) (omega (arith, length_pairs m₀.gates.now, G.room)) in
    omega (arith, length-append (olds m₀) hs, G.first_is, G.used_is, G.made_is)

-- one copy c more
module _ (first : ℕ) (old : List Pair) (cs : List ℕ) (c : Literal) where
  gates_next : (core : List ℕ) (j : Join) → j.gates ++ join_gates (if_any core j.literal) c ≡ (join_next first old cs core j c.code).gates
  gates_next [] j = append-nil j.gates
  gates_next (l ∷ ls) j = refl

  code_next : (m : Making) (core : List ℕ) (j : Join) → 2 * (m.first + m.used + m.made) ≡ fresh first old j.gates → join_code m (if_any core j.literal) c ≡ (join_next first old cs core j c.code).literal
  code_next m [] j e = refl
  code_next m (l ∷ ls) j e = e

abbrev some_code : ℕ → Option Literal
some_code n = Some (record { code = n })

if_any_push : (core : List ℕ) (x e : ℕ) → if_any (core ++ (x ∷ [])) e ≡ Some (record { code = e })
if_any_push [] x e = refl
if_any_push (l ∷ ls) x e = refl

module _ (m m' : Making) (cs : List Copies) (core : List ℕ) (e : Option Literal) (S : SoFar m m' cs core e) where
  pub so_far_more : (m'' : Making) (core' : List ℕ) (x : ℕ) (c l : Literal) → core ++ (x ∷ []) ≡ core' → c.code ≡ core_copy (codes cs) x → OneJoined m' m'' e c l → SoFar m m'' cs core' (Some l)
  so_far_more m'' core' x c l more copy O = record {
    made = S.made ++ join_gates e c;
    grown = grown_more m m' m'' S.made (join_gates e c) S.grown O.grown;
    joins = λ m₀ hs z G.
        let A = S.joins m₀ hs z G in
        let j = all_joined m₀ cs core hs in
        let j' : join_next m₀.first (olds m₀) (codes cs) core j c.code ≡ all_joined m₀ cs core' hs =
        ap (join_next m₀.first (olds m₀) (codes cs) core j) copy ∙ sym (join_push m₀.first (olds m₀) (codes cs) core x hs) ∙ ap (λ ls. all_joined m₀ cs ls hs) more in
        let literal : l.code ≡ (all_joined m₀ cs core' hs).literal =
        O.literal ∙ ap (λ o. join_code m' o c) A.1 ∙ code_next m₀.first (olds m₀) (codes cs) c m' core j (next_literal m₀ m' j.gates z A.0) ∙ ap (λ k. k.literal) j' in (
          subst (Grown m₀ m'') (ap (λ o. j.gates ++ join_gates o c) A.1 ∙ gates_next m₀.first (olds m₀) (codes cs) c core j ∙ ap (λ k. k.gates) j') (grown_more m₀ m' m'' j.gates (join_gates e c) A.0 O.grown),
          ap some_code literal ∙ sym (if_any_push core x (all_joined m₀ cs core' hs).literal) ∙ ap (λ ls. if_any ls (all_joined m₀ cs core' hs).literal) more,
        );
  }

  pub so_far_same : (core' : List ℕ) → core ++ [] ≡ core' → SoFar m m' cs core' e
  so_far_same core' s = subst (λ ls. SoFar m m' cs ls e) (sym (append-nil core) ∙ s) S

  few : (c : Literal) (core' : List ℕ) (n : ℕ) → length (join_gates (if_any core' n) c) + (length core' - 1) ≤ length core'
  few c [] n = omega arith
  few c (l ∷ ls) n = omega arith

  pub so_far_stopped : (m'' : Making) (all : List ℕ) (c : Literal) → length core < length all → Stopped m' m'' (length (join_gates e c)) → CoreStopped m m'' cs all
  so_far_stopped m'' all c h T m₀ hs z G =
      let A = S.joins m₀ hs z G in
      let j = all_joined m₀ cs core hs in
      stopped_after m₀ m' m'' j.gates (length (join_gates e c)) (length (all_joined m₀ cs all hs).gates) A.0 T
      (omega (arith, join_counts m₀.first (olds m₀) (codes cs) core hs, join_counts m₀.first (olds m₀) (codes cs) all hs, few c core j.literal, ap (λ o. length (join_gates o c)) A.1))

  or_code : (ls : List ℕ) (d : Literal) (n : ℕ) → (ls ≡ [] → d.code ≡ n) → (unwrap_or (if_any ls n) d).code ≡ n
  or_code [] d n h = h refl
  or_code (k ∷ ls) d n h = refl

  pub joined_or : (d l : Literal) → d.code ≡ 1 → l ≡ unwrap_or e d → CoreJoined m m' cs core l
  joined_or d l one p m₀ hs z G =
      let A = S.joins m₀ hs z G in
      let none : core ≡ [] → d.code ≡ (all_joined m₀ cs core hs).literal = λ q. one ∙ sym (ap (λ ls. (all_joined m₀ cs ls hs).literal) q) in
      (A.0, ap (λ x. x.code) p ∙ ap (λ o. (unwrap_or o d).code) A.1 ∙ or_code core d (all_joined m₀ cs core hs).literal none)
