-- Replies and lists after a query, for a node of the tree by those of the nodes below it.
use Rattle.std.proofs.Common.{◌≡◌, ℕ, zero, suc, ◌+◌, ◌-◌, ◌<◌, ◌≤◌, Bool, true, false, cond, ◌||◌, ◌≢◌, List, [], ◌∷◌, length, replicate, sym, refl, ap, ◌∙◌, ap₂, inl, inr, arith}
use Rattle.std.proofs.lemmas.Bool.{cases_lt, lt-ltb, le-ltb}
use Rattle.valuation.specs.declared.Value.TheVariants.{Unknown}
use Rattle.search.specs.declared.Reply.TheVariants.{NoMove, Spent}
use Rattle.search.specs.Answers.{Outcome, moves, loses, Answer, paid, reply_of, setting_of, range_after, core_of, marks_after}
use Rattle.splitting.specs.Tree.{answer, join, second, ways}
use Rattle.search.specs.Replies.{later, steps_of}

-- an answer whose need the allowance covers, and one whose need it does not
module _ (a : Answer) (n : ℕ) where
  pub reply_paid : a.need ≤ n → reply_of a n ≡ paid a.outcome a.need
  reply_paid h = ap (λ b. cond b Spent (paid a.outcome a.need)) (le-ltb n a.need h)

  pub reply_spent : n < a.need → reply_of a n ≡ Spent
  reply_spent h = ap (λ b. cond b Spent (paid a.outcome a.need)) (lt-ltb n a.need h)

  module _ (f : ℕ) where
    pub range_paid : a.need ≤ n → range_after a n f ≡ setting_of a.outcome f
    range_paid h = ap (λ b. cond b (replicate f Unknown) (setting_of a.outcome f)) (le-ltb n a.need h)

    pub range_spent : n < a.need → range_after a n f ≡ replicate f Unknown
    range_spent h = ap (λ b. cond b (replicate f Unknown) (setting_of a.outcome f)) (lt-ltb n a.need h)

-- what a reply says of the answer
pub record Lost (a : Answer) (n m : ℕ) : Type 0 where
  pub core : List Bool
  pub loss : a.outcome ≡ loses core
  pub cost : a.need ≡ m
  pub within : m ≤ n

pub no_move_says : (a : Answer) (n m : ℕ) → reply_of a n ≡ NoMove m → Lost a n m
no_move_says a n m e =
    elim (cases_lt n a.need) [
      | inl h ↦ (let z = sym (reply_spent a n h) ∙ e in cc)
      | inr h ↦ pick a.outcome refl h
    ]
  where
    pick : (o : Outcome) → a.outcome ≡ o → a.need ≤ n → Lost a n m
    pick (moves s) is h = let z = sym (reply_paid a n h ∙ ap (λ o. paid o a.need) is) ∙ e in cc
    pick (loses c) is h =
        let cost : a.need ≡ m = ap steps_of (sym (reply_paid a n h ∙ ap (λ o. paid o a.need) is) ∙ e) in
        record { core = c; loss = is; cost = cost; within = omega arith }

-- the range is unset unless the reply is a move
pub range_no_move : (a : Answer) (n m f : ℕ) → reply_of a n ≡ NoMove m → range_after a n f ≡ replicate f Unknown
range_no_move a n m f e = let l = no_move_says a n m e in range_paid a n f (omega (arith, l.cost, l.within)) ∙ ap (λ o. setting_of o f) l.loss

-- the marks are the core of a no move, and else none
pub marks_no_move : (a : Answer) (n m size : ℕ) → reply_of a n ≡ NoMove m → marks_after a n size ≡ core_of a.outcome size
marks_no_move a n m size e =
    let l = no_move_says a n m e in
    ap (λ b. cond b (replicate size false) (core_of a.outcome size)) (le-ltb n a.need (omega (arith, l.cost, l.within)))

-- the first way has no no move: its reply is the node's, a step later
module _ (a b : Answer) (n : ℕ) (some : 1 ≤ n) (other : (m : ℕ) → reply_of a (n - 1) ≢ NoMove m) where
  abbrev both : Answer
  both = ways a.outcome a.need b

  first_spent : n - 1 < a.need → n < both.need
  first_spent h = pick a.outcome
    where
      after : (c : List Bool) (o : Outcome) → n < (second c a.need o b.need).need
      after c (moves s) = omega arith
      after c (loses d) = omega arith

      pick : (o : Outcome) → n < (ways o a.need b).need
      pick (moves s) = omega arith
      pick (loses c) = after c b.outcome

  first_moves : a.need ≤ n - 1 → (s : List Bool) × (a.outcome ≡ moves s)
  first_moves h = pick a.outcome refl
    where
      pick : (o : Outcome) → a.outcome ≡ o → (s : List Bool) × (a.outcome ≡ moves s)
      pick (moves s) is = (s, is)
      pick (loses c) is = absurd (other a.need (reply_paid a (n - 1) h ∙ ap (λ o. paid o a.need) is))

  moved_both : (s : List Bool) → a.outcome ≡ moves s → both ≡ answer (moves s) (1 + a.need)
  moved_both s is = ap (λ o. ways o a.need b) is

  pub first_reply : reply_of both n ≡ later 1 (reply_of a (n - 1))
  first_reply =
      elim (cases_lt (n - 1) a.need) [
        | inl h ↦ reply_spent both n (first_spent h) ∙ sym (ap (later 1) (reply_spent a (n - 1) h))
        | inr h ↦
            let m = first_moves h in
            ap (λ x. reply_of x n) (moved_both m.0 m.1) ∙ reply_paid (answer (moves m.0) (1 + a.need)) n (omega arith)
            ∙ sym (ap (later 1) (reply_paid a (n - 1) h ∙ ap (λ o. paid o a.need) m.1))
      ]

  pub first_range : (f : ℕ) → range_after both n f ≡ range_after a (n - 1) f
  first_range f =
      elim (cases_lt (n - 1) a.need) [
        | inl h ↦ range_spent both n f (first_spent h) ∙ sym (range_spent a (n - 1) f h)
        | inr h ↦
            let m = first_moves h in
            ap (λ x. range_after x n f) (moved_both m.0 m.1) ∙ range_paid (answer (moves m.0) (1 + a.need)) n f (omega arith)
            ∙ sym (range_paid a (n - 1) f h ∙ ap (λ o. setting_of o f) m.1)
      ]

-- the first way has a no move with m steps: the second way's reply, later by these and a step
module _ (a b : Answer) (n m : ℕ) (some : 1 ≤ n) (lost : Lost a (n - 1) m) where
  abbrev whole : Answer
  whole = ways a.outcome a.need b

  whole_is : whole ≡ second lost.core m b.outcome b.need
  whole_is = ap₂ (λ o k. ways o k b) lost.loss lost.cost

  need_second : (c : List Bool) (o : Outcome) (k : ℕ) → (second c m o k).need ≡ 1 + m + k
  need_second c (moves s) k = refl
  need_second c (loses d) k = refl

  need_is : whole.need ≡ 1 + m + b.need
  need_is = ap (λ x. x.need) whole_is ∙ need_second lost.core b.outcome b.need

  paid_later : (c : List Bool) (o : Outcome) (k : ℕ) → paid (second c m o k).outcome (second c m o k).need ≡ later (1 + m) (paid o k)
  paid_later c (moves s) k = refl
  paid_later c (loses d) k = refl

  same_setting : (c : List Bool) (o : Outcome) (k f : ℕ) → setting_of (second c m o k).outcome f ≡ setting_of o f
  same_setting c (moves s) k f = refl
  same_setting c (loses d) k f = refl

  pub second_reply : reply_of whole n ≡ later (1 + m) (reply_of b (n - (1 + m)))
  second_reply =
      elim (cases_lt (n - (1 + m)) b.need) [
        | inl h ↦ reply_spent whole n (omega (arith, need_is, lost.within)) ∙ sym (ap (later (1 + m)) (reply_spent b (n - (1 + m)) h))
        | inr h ↦ reply_paid whole n (omega (arith, need_is, lost.within)) ∙ ap (λ x. paid x.outcome x.need) whole_is ∙ paid_later lost.core b.outcome b.need
            ∙ sym (ap (later (1 + m)) (reply_paid b (n - (1 + m)) h))
      ]

  pub second_range : (f : ℕ) → range_after whole n f ≡ range_after b (n - (1 + m)) f
  second_range f =
      elim (cases_lt (n - (1 + m)) b.need) [
        | inl h ↦ range_spent whole n f (omega (arith, need_is, lost.within)) ∙ sym (range_spent b (n - (1 + m)) f h)
        | inr h ↦ range_paid whole n f (omega (arith, need_is, lost.within)) ∙ ap (λ x. setting_of x.outcome f) whole_is ∙ same_setting lost.core b.outcome b.need f
            ∙ sym (range_paid b (n - (1 + m)) f h)
      ]

  pub second_core : (k size : ℕ) → reply_of b (n - (1 + m)) ≡ NoMove k → core_of whole.outcome size ≡ join (core_of a.outcome size) (core_of b.outcome size)
  second_core k size e =
      let l = no_move_says b (n - (1 + m)) k e in
      ap (λ x. core_of x.outcome size) (whole_is ∙ ap (λ o. second lost.core m o b.need) l.loss)
      ∙ sym (ap₂ (λ o p. join (core_of o size) (core_of p size)) lost.loss l.loss)

-- joins
or_assoc : (x y z : Bool) → ((x || y) || z) ≡ (x || (y || z))
or_assoc true y z = refl
or_assoc false y z = refl

pub join_assoc : (xs ys zs : List Bool) → length ys ≡ length xs → join (join xs ys) zs ≡ join xs (join ys zs)
join_assoc [] ys zs e = refl
join_assoc (x ∷ xs) [] zs e = absurd (omega arith)
join_assoc (x ∷ xs) (y ∷ ys) [] e = refl
join_assoc (x ∷ xs) (y ∷ ys) (z ∷ zs) e = ap₂ (λ b bs. b ∷ bs) (or_assoc x y z) (join_assoc xs ys zs (omega arith))

pub join_none : (cs : List Bool) (n : ℕ) → length cs ≡ n → join (replicate n false) cs ≡ cs
join_none [] zero e = refl
join_none [] (suc n) e = absurd (omega arith)
join_none (c ∷ cs) zero e = absurd (omega arith)
join_none (c ∷ cs) (suc n) e = ap (λ bs. c ∷ bs) (join_none cs n (omega arith))
