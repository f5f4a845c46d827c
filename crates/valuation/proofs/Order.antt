-- How `not`, `and` and a forced value carry the order of information.
use Rattle.std.proofs.Common.{◌≡◌, ℕ, Bool, true, false, not, ◌≢◌, ◌⊎◌, sym, refl, ap, ◌∙◌, inl, inr, arith}
use Rattle.valuation.specs.declared.Value.{Value}
use Rattle.valuation.specs.declared.Value.TheVariants.{Unknown, False, True}
use Rattle.valuation.specs.Three.{not3, and3, or_else, watched, Keeps, Below, Agree}
use Rattle.valuation.specs.Circuit.{signed}

abbrev code : Value → ℕ
code Unknown = 0
code False = 1
code True = 2

pub known : (x : Value) → (x ≡ Unknown) ⊎ (x ≢ Unknown)
known Unknown = inl refl
known False = inr (λ e. omega (arith, ap code e))
known True = inr (λ e. omega (arith, ap code e))

pub True≢False : True ≢ False
True≢False e = omega (arith, ap code e)

pub unknown≢watched : (p : Bool) → Unknown ≢ watched p
unknown≢watched true e = omega (arith, ap code e)
unknown≢watched false e = omega (arith, ap code e)

pub not_not3 : (x : Value) → not3 (not3 x) ≡ x
not_not3 Unknown = refl
not_not3 False = refl
not_not3 True = refl

turned : (p : Bool) → not3 (watched p) ≡ watched (not p)
turned true = refl
turned false = refl

not_not : (p : Bool) → watched (not (not p)) ≡ watched p
not_not true = refl
not_not false = refl

pub keeps_not : (p : Bool) (x y : Value) → Keeps (not p) x y → Keeps p (not3 x) (not3 y)
keeps_not p x y k e = ap not3 (k (sym (not_not3 x) ∙ ap not3 e ∙ turned p)) ∙ turned (not p) ∙ not_not p

pub some_false : (a b : Value) → and3 a b ≡ False → (a ≡ False) ⊎ (b ≡ False)
some_false False b e = inl refl
some_false True b e = inr e
some_false Unknown False e = inr refl
some_false Unknown True e = inl e
some_false Unknown Unknown e = inl e

pub left_false : (a b : Value) → a ≡ False → and3 a b ≡ False
left_false a b e = rw e

pub right_false : (a b : Value) → b ≡ False → and3 a b ≡ False
right_false Unknown b e = rw e
right_false False b e = refl
right_false True b e = e

pub both_true : (a b : Value) → and3 a b ≡ True → (a ≡ True) × (b ≡ True)
both_true False b e = absurd (omega (arith, ap code e))
both_true True b e = (refl, e)
both_true Unknown False e = absurd (omega (arith, ap code e))
both_true Unknown True e = (e, refl)
both_true Unknown Unknown e = (e, e)

pub keeps_and : (p : Bool) (a b c d : Value) → Keeps p a c → Keeps p b d → Keeps p (and3 a b) (and3 c d)
keeps_and true a b c d h k e =
    elim (some_false a b e) [
      | inl i ↦ left_false c d (h i)
      | inr i ↦ right_false c d (k i)
    ]
keeps_and false a b c d h k e = let t = both_true a b e in rw (h t.0, k t.1) refl

pub below_same : (x y : Value) → y ≡ x → Below x y
below_same x y e p h = e ∙ h

pub below_trans : (x y z : Value) → Below x y → Below y z → Below x z
below_trans x y z h k p e = k p (h p e)

pub below_signed : (neg : Bool) (x y : Value) → Below x y → Below (signed neg x) (signed neg y)
below_signed true x y h p = keeps_not p x y (h (not p))
below_signed false x y h p = h p

pub below_and : (a b c d : Value) → Below a c → Below b d → Below (and3 a b) (and3 c d)
below_and a b c d h k p = keeps_and p a b c d (h p) (k p)

-- a known value below another is that one
pub below_known : (x y : Value) → Below x y → x ≢ Unknown → y ≡ x
below_known Unknown y h k = absurd (k refl)
below_known False y h k = h true refl
below_known True y h k = h false refl

pub signed_known : (neg : Bool) (x : Value) → x ≢ Unknown → signed neg x ≢ Unknown
signed_known true x k e = k (sym (not_not3 x) ∙ ap not3 e)
signed_known false x k e = k e

pub and_known : (a b : Value) → a ≢ Unknown → b ≢ Unknown → and3 a b ≢ Unknown
and_known Unknown b h k e = h refl
and_known False b h k e = unknown≢watched true (sym e)
and_known True b h k e = k e

pub forced_known : (f y : Value) → f ≢ Unknown → or_else f y ≡ f
forced_known Unknown y k = absurd (k refl)
forced_known False y k = refl
forced_known True y k = refl

pub forced_unknown : (f y : Value) → f ≡ Unknown → or_else f y ≡ y
forced_unknown f y e = rw e

-- what two values that agree say together is above both
pub below_first : (x y : Value) → Below x (or_else x y)
below_first x y p e = rw e (watched_stays p y)
  where
    watched_stays : (p : Bool) (y : Value) → or_else (watched p) y ≡ watched p
    watched_stays true y = refl
    watched_stays false y = refl

pub below_second : (x y : Value) → Agree x y → Below y (or_else x y)
below_second x y a p e =
    elim (known x) [
      | inl u ↦ rw u e
      | inr k ↦ forced_known x y k ∙ a k (λ u. unknown≢watched p (sym u ∙ e)) ∙ e
    ]
