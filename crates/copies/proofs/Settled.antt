-- A settlement is right: the joined copies of a core, and the new root.
use Rattle.std.proofs.Common.{◌≡◌, ℕ, ◌+◌, ◌*◌, ◌/◌, ◌<◌, Bool, true, false, not, eqb, ◌≢◌, List, [], ◌∷◌, ◌++◌, length, sym, refl, ap, ◌∙◌, inl, inr}
use Rattle.std.proofs.lemmas.Bool.{cases_Bool, eqb-true}
use Rattle.valuation.specs.declared.Value.{Value}
use Rattle.valuation.specs.declared.Value.TheVariants.{Unknown, False, True}
use Rattle.valuation.specs.Three.{not3, and3, of_bool}
use Rattle.valuation.specs.Circuit.{Pair, gate, Values, nothing, negated, signed, lit, both, Valuation}
use Rattle.valuation.proofs.Order.{not_not3, some_false, left_false, right_false, both_true, below_signed}
use Rattle.valuation.proofs.Nodes.{unforced_more}
use Rattle.copies.specs.Copy.{Part, opposite, Joined, none, one, two, Agrees, Unset, AllTrue, forced_by}
use Rattle.copies.specs.Claims.{SettlesJust, SettlesFalls, SettlesOwn}
use Rattle.copies.proofs.Literals.{at_node, at_opposite, lit_just, lit_own}
use Rattle.copies.proofs.Copied.{at_constant, at_zero, at_gate, just, own}

-- core literals
all_split : (v : Values) (ks ls : List ℕ) → AllTrue v (ks ++ ls) → AllTrue v ks × AllTrue v ls
all_split v [] ls h = (tt, h)
all_split v (k ∷ ks) ls h = let r = all_split v ks ls h.1 in ((h.0, r.0), r.1)

pub all_join : (v : Values) (ks ls : List ℕ) → AllTrue v ks → AllTrue v ls → AllTrue v (ks ++ ls)
all_join v [] ls a b = b
all_join v (k ∷ ks) ls a b = (a.0, all_join v ks ls a.1 b)

value_of : (neg : Bool) (x : Value) → signed neg x ≡ True → x ≡ of_bool (not neg)
value_of true x e = sym (not_not3 x) ∙ ap not3 e
value_of false x e = e

-- where the core's literals are true, its nodes have their forced values
sound : (v : Values) (ls : List ℕ) (n : ℕ) → AllTrue v ls → forced_by ls n ≢ Unknown → v n ≡ forced_by ls n
sound v [] n h = λ k. absurd (k refl)
sound v (l ∷ ls) n h =
    elim (cases_Bool (eqb (l / 2) n)) [
      | inl e ↦ rw e (λ _. ap v (sym (eqb-true (l / 2) n e)) ∙ value_of (negated l) (v (l / 2)) h.0)
      | inr e ↦ rw e (sound v ls n h.1)
    ]

module _ (first : ℕ) (old new : List Pair) (part : ℕ → Part) (t t' u w : Values) (pos : 0 < first) (zero : t 0 ≡ False)
    (U : Valuation first old nothing t' u) (W : Valuation first new nothing t w) where
  joined_just : ((n : ℕ) → n < first → Agrees (part n) (t n) (t' n)) → {ls : List ℕ} {e : ℕ} → Joined first old new part ls e → lit w e ≡ True → AllTrue u ls
  joined_just agree none h = tt
  joined_just agree (one l c C) h = (lit_just u w l c false (just first old new part t t' u w pos zero U W agree C) h, tt)
  joined_just agree (two ks ls a b A B j i g) h =
      let r = both_true (lit w a) (lit w b) (sym (at_gate first old new part t t' u w pos zero U W j _ i g) ∙ h) in
      all_join u ks ls (joined_just agree A r.0) (joined_just agree B r.1)

  joined_own : ((n : ℕ) → n < first → Unset (part n) (t n) (t' n)) → {ls : List ℕ} {e : ℕ} → Joined first old new part ls e → AllTrue u ls → lit w e ≡ True
  joined_own unset none h = at_constant w (at_zero first old new part t t' u w pos zero U W) true
  joined_own unset (one l c C) h = lit_own u w l c false (own first old new part t t' u w pos zero U W unset C) h.0
  joined_own unset (two ks ls a b A B j i g) h =
      let r = all_split u ks ls h in
      at_gate first old new part t t' u w pos zero U W j _ i g ∙ rw (joined_own unset A r.0, joined_own unset B r.1) refl

-- the new root
module _ (first : ℕ) (new : List Pair) (t w : Values) (e r m : ℕ) (i : m < length new) (g : gate new m ≡ record { left = r; right = opposite e })
    (W : Valuation first new nothing t w) where
  pub at_root : lit w (2 * (first + m)) ≡ and3 (lit w r) (not3 (lit w e))
  at_root = at_node w (first + m) ∙ W.gates m i ∙ ap (both w) g ∙ ap (and3 (lit w r)) (at_opposite w e)

pub settles_falls : SettlesFalls
settles_falls first new t w e r m i g W h = at_root first new t w e r m i g W ∙ left_false _ _ h

pub settles_own : SettlesOwn
settles_own first old new part t t' u w core e r m pos zero J i g U W unset all =
    at_root first new t w e r m i g W ∙ right_false _ _ (ap not3 (joined_own first old new part t t' u w pos zero U W unset J all))

pub settles_just : SettlesJust
settles_just first old new part t t' s u w x core e r q m asc pos zero J i g U W agree X less inside refuted alive falls =
    below_signed (negated q) (x (q / 2)) (u (q / 2)) (unforced_more first old (forced_by core) s t' x u asc X U less (λ n h. sound u core n (joined_just first old new part t t' u w pos zero U W agree J fires)) (q / 2) inside) true refuted
  where
    fires : lit w e ≡ True
    fires = elim (some_false (lit w r) (not3 (lit w e)) (sym (at_root first new t w e r m i g W) ∙ falls)) [
      | inl d ↦ absurd (alive d)
      | inr d ↦ sym (not_not3 (lit w e)) ∙ ap not3 d
    ]
