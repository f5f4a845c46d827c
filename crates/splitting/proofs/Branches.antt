-- What a node of the tree comes to, by plain lists: how each of its ends answers, and the node by its two ways on.
use Rattle.std.proofs.Common.{◌≡◌, ℕ, suc, ◌+◌, ◌-◌, ◌/◌, ◌<◌, ◌≤◌, Bool, true, false, ◌≢◌, ◌⊎◌, List, [], ◌∷◌, ◌++◌, map, length, take, drop, set, replicate, sym, refl, ap, ◌∙◌, subst, ap₂, inl, inr, arith}
use Rattle.std.proofs.lemmas.List.{get_or-take, length_push, set-set}
use Rattle.valuation.specs.declared.Value.{Value}
use Rattle.valuation.specs.declared.Value.TheVariants.{Unknown, False, True}
use Rattle.valuation.specs.Three.{of_bool}
use Rattle.valuation.specs.Circuit.{lit, reads, values_of}
use Rattle.search.specs.declared.Ask.{Ask}
use Rattle.search.specs.declared.Reply.{Reply}
use Rattle.search.specs.declared.Reply.TheVariants.{Move, NoMove, Spent}
use Rattle.search.specs.Queries.{Query, Sound, nodes, values_under}
use Rattle.search.specs.Asking.{asked}
use Rattle.search.specs.Answers.{reply_of, range_after, core_of}
use Rattle.splitting.specs.Blame.{core}
use Rattle.splitting.specs.Tree.{root_at, join, lost_at, moved_at, tree}
use Rattle.search.specs.Replies.{later}
use Rattle.splitting.specs.Steps.{settled, inputs_at, Stands, settings_at, answer_at}
use Rattle.splitting.proofs.Marking.{core_same}
use Rattle.splitting.proofs.Trees.{on, tree_lost, tree_moved, tree_end, tree_split, need_within, length_lost}
use Rattle.splitting.proofs.Replies.{reply_paid, reply_spent, range_paid, range_spent, Lost, no_move_says, range_no_move, first_reply, first_range, second_reply, second_range, second_core, join_assoc}
use Rattle.splitting.proofs.Standing.{take_set_in, inputs_more, inputs_back, length_settings, settings_back, setting_is}

-- the reply and the lists after a node with k variables unset, allowance n: what is left of the range, the marks, and the values
pub record Ended (q : Query) (k : ℕ) (s : List Bool) (n : ℕ) (r : Reply) (after : List Value) (old marks : List Bool) (values : List Value) : Type 0 where
  pub reply : r ≡ reply_of (tree q k s) n
  pub range : after ≡ range_after (tree q k s) n q.free
  pub cores : (m : ℕ) → r ≡ NoMove m → marks ≡ join old (core_of (tree q k s).outcome (nodes q))
  pub inputs : (m : ℕ) → r ≡ NoMove m → Stands q s values

-- neither false nor true
pub unknown_left : (x : Value) → x ≢ False → x ≢ True → x ≡ Unknown
unknown_left Unknown f t = refl
unknown_left False f t = absurd (f refl)
unknown_left True f t = absurd (t refl)

later_not : (m n : ℕ) (r : Reply) → ((k : ℕ) → r ≢ NoMove k) → later m r ≡ NoMove n → ⊥
later_not m n (Move k) h e = cc
later_not m n (NoMove k) h e = h k refl
later_not m n Spent h e = cc

-- what a later no move comes from
later_no_move : (m n : ℕ) (r : Reply) → later m r ≡ NoMove n → (k : ℕ) × (r ≡ NoMove k)
later_no_move m n (Move k) e = cc
later_no_move m n (NoMove k) e = (k, refl)
later_no_move m n Spent e = cc

module _ (q : Query) (sound : Sound q) (k : ℕ) (s : List Bool) (n : ℕ) (old : List Bool) where
  -- no step is left
  pub ended_spent : (values : List Value) → n ≡ 0 → Ended q k s n Spent (replicate q.free Unknown) old old values
  ended_spent values e =
      let some = (need_within q k s).0 in
      record {
        reply = sym (reply_spent (tree q k s) n (omega arith));
        range = sym (range_spent (tree q k s) n q.free (omega arith));
        cores = λ m e'. cc;
        inputs = λ m e'. cc;
      }

  -- the root worked out, over values that have the inputs of the node
  module _ (some : 1 ≤ n) (before values : List Value) (root : Value) (stands : Stands q s before)
      (value : root ≡ lit (reads (values_of q.gates (reads q.forced) (take (1 + q.variables) before))) q.root)
      (walked : take (q.root / 2 + 1) values ≡ take (q.root / 2 + 1) (values_of q.gates (reads q.forced) (take (1 + q.variables) before)))
      (kept : take (1 + q.variables) values ≡ take (1 + q.variables) before) where
    root_is : root ≡ root_at q s
    root_is = value ∙ ap (λ vs. lit (reads (values_of q.gates (reads q.forced) vs)) q.root) stands

    still_stands : Stands q s values
    still_stands = kept ∙ stands

    node_is : (m : ℕ) → m ≤ q.root / 2 → reads values m ≡ values_under q (reads q.forced) (map of_bool s) m
    node_is m h =
        let h' : m < q.root / 2 + 1 = omega arith in
        sym (get_or-take (q.root / 2 + 1) values m Unknown h') ∙ ap (λ vs. reads vs m) (walked ∙ ap (λ vs. take (q.root / 2 + 1) (values_of q.gates (reads q.forced) vs)) stands)
        ∙ get_or-take (q.root / 2 + 1) (values_of q.gates (reads q.forced) (inputs_at q s)) m Unknown h'

    -- a refuted branch
    pub ended_lost : root ≡ False → (marks : List Bool) → marks ≡ join old (core (1 + q.variables) q.gates (reads q.forced) (reads values) (q.root / 2)) →
        Ended q k s n (NoMove 1) (replicate q.free Unknown) old marks values
    ended_lost e marks is =
        let t = tree_lost q s k (sym root_is ∙ e) in
        record {
          reply = sym (ap (λ a. reply_of a n) t ∙ reply_paid (lost_at q s) n some);
          range = sym (ap (λ a. range_after a n q.free) t ∙ range_paid (lost_at q s) n q.free some);
          cores = λ m e'. is ∙ ap (join old) (core_same (1 + q.variables) q.gates (reads q.forced) (q.root / 2) sound.ascending (omega arith) sound.rooted (reads values) _ node_is
              ∙ sym (ap (λ a. core_of a.outcome (nodes q)) t));
          inputs = λ m e'. still_stands;
        }

    -- a move
    moved : (tree q k s ≡ moved_at k s) → (range : List Value) → length s + k ≡ q.free → range ≡ map settled (take q.free (drop q.start values)) → Ended q k s n (Move 1) range old old values
    moved t range fits is = record {
      reply = sym (ap (λ a. reply_of a n) t ∙ reply_paid (moved_at k s) n some);
      range = is ∙ setting_is q sound s k values fits still_stands ∙ sym (ap (λ a. range_after a n q.free) t ∙ range_paid (moved_at k s) n q.free some);
      cores = λ m e. cc;
      inputs = λ m e. cc;
    }

    pub ended_moved : (root ≡ True) ⊎ ((root ≡ Unknown) × (k ≡ 0)) → (range : List Value) → length s + k ≡ q.free → range ≡ map settled (take q.free (drop q.start values)) → Ended q k s n (Move 1) range old old values
    ended_moved (inl e) = moved (tree_moved q s k (sym root_is ∙ e))
    ended_moved (inr e) = moved (ap (λ j. tree q j s) e.1 ∙ tree_end q s (sym root_is ∙ e.0) ∙ ap (λ j. moved_at j s) (sym e.1))

-- a node that is split: the next variable's node, and the nodes below
module _ (q : Query) (sound : Sound q) (k : ℕ) (s : List Bool) (fits : length s + k ≡ q.free) (left : 1 ≤ k) where
  abbrev child : Bool → List Bool
  child b = s ++ (b ∷ [])

  set_stands : (b : Bool) (node : ℕ) (values : List Value) → node ≡ q.start + length s → Stands q s values → Stands q (child b) (set values node (of_bool b))
  set_stands b node values is stands =
      take_set_in (1 + q.variables) values node (of_bool b) ∙ ap₂ (λ xs i. set xs i (of_bool b)) stands is ∙ sym (inputs_more q sound s b (omega arith))

  turn_stands : (b c : Bool) (node : ℕ) (values : List Value) → node ≡ q.start + length s → Stands q (child b) values → Stands q (child c) (set values node (of_bool c))
  turn_stands b c node values is stands =
      take_set_in (1 + q.variables) values node (of_bool c) ∙ ap₂ (λ xs i. set xs i (of_bool c)) (stands ∙ inputs_more q sound s b (omega arith)) is
      ∙ set-set (inputs_at q s) (q.start + length s) (of_bool b) (of_bool c) ∙ sym (inputs_more q sound s c (omega arith))

  back_stands : (b : Bool) (node : ℕ) (values : List Value) → node ≡ q.start + length s → Stands q (child b) values → Stands q s (set values node Unknown)
  back_stands b node values is stands =
      take_set_in (1 + q.variables) values node Unknown ∙ ap₂ (λ xs i. set xs i Unknown) stands is ∙ inputs_back q sound s b (omega arith)

  -- the settings of a child are read back
  child_settings : (b : Bool) (values : List Value) → Stands q (child b) values → settings_at q.start (q.free - (k - 1)) values ≡ child b
  child_settings b values stands =
      let l = length_push s b in
      settings_back q sound (child b) (q.free - (k - 1)) values (omega arith) (omega arith) stands

  module _ (n : ℕ) (some : 1 ≤ n) (unknown : root_at q s ≡ Unknown) (old : List Bool) (long : length old ≡ nodes q) where
    split_is : tree q k s ≡ on q (k - 1) s
    split_is = ap (λ j. tree q j s) (let e : k ≡ suc (k - 1) = omega arith in e) ∙ tree_split q s (k - 1) unknown

    -- the first way has no no move
    ended_first : (r : Reply) (after : List Value) (marks : List Bool) (values : List Value) → r ≡ reply_of (tree q (k - 1) (child false)) (n - 1) → ((m : ℕ) → r ≢ NoMove m) →
        after ≡ range_after (tree q (k - 1) (child false)) (n - 1) q.free → (r' : Reply) → r' ≡ later 1 r → Ended q k s n r' after old marks values
    ended_first r after marks values reply other range r' is =
        let a = tree q (k - 1) (child false) in
        let b = tree q (k - 1) (child true) in
        let other' : (m : ℕ) → reply_of a (n - 1) ≢ NoMove m = λ m e. other m (reply ∙ e) in
        record {
          reply = is ∙ ap (later 1) reply ∙ sym (ap (λ x. reply_of x n) split_is ∙ first_reply a b n some other');
          range = range ∙ sym (ap (λ x. range_after x n q.free) split_is ∙ first_range a b n some other' q.free);
          cores = λ m e. absurd (later_not 1 m r other (sym is ∙ e));
          inputs = λ m e. absurd (later_not 1 m r other (sym is ∙ e));
        }

    -- the first way had a no move with m steps, and left the marks `middle`
    module _ (m : ℕ) (middle : List Bool) (reply : NoMove m ≡ reply_of (tree q (k - 1) (child false)) (n - 1)) (marked : middle ≡ join old (core_of (tree q (k - 1) (child false)).outcome (nodes q))) where
      lost : Lost (tree q (k - 1) (child false)) (n - 1) m
      lost = no_move_says (tree q (k - 1) (child false)) (n - 1) m (sym reply)

      ended_second : (r : Reply) (after : List Value) (marks : List Bool) (node : ℕ) (values : List Value) → node ≡ q.start + length s → Ended q (k - 1) (child true) (n - (1 + m)) r after middle marks values →
          (r' : Reply) → r' ≡ later (1 + m) r → Ended q k s n r' after old marks (set values node Unknown)
      ended_second r after marks node values at high r' is =
          let a = tree q (k - 1) (child false) in
          let b = tree q (k - 1) (child true) in
          record {
            reply = is ∙ ap (later (1 + m)) high.reply ∙ sym (ap (λ x. reply_of x n) split_is ∙ second_reply a b n m some lost);
            range = high.range ∙ sym (ap (λ x. range_after x n q.free) split_is ∙ second_range a b n m some lost q.free);
            cores = λ j e.
                let h = later_no_move (1 + m) j r (sym is ∙ e) in
                high.cores h.0 h.1 ∙ ap (λ xs. join xs (core_of b.outcome (nodes q))) marked
                ∙ join_assoc old (core_of a.outcome (nodes q)) (core_of b.outcome (nodes q)) (core_long ∙ sym long)
                ∙ ap (join old) (sym (ap (λ x. core_of x.outcome (nodes q)) split_is ∙ second_core a b n m some lost h.0 (nodes q) (sym high.reply ∙ h.1)));
            inputs = λ j e. let h = later_no_move (1 + m) j r (sym is ∙ e) in back_stands true node values at (high.inputs h.0 h.1);
          }
        where
          core_long : length (core_of (tree q (k - 1) (child false)).outcome (nodes q)) ≡ nodes q
          core_long = ap (λ o. length (core_of o (nodes q))) lost.loss ∙ length_lost q (k - 1) (child false) lost.core lost.loss

-- A node that is split, in the terms of code that asks with k of `free` variables unset and n steps allowed: `before` are the values that it
-- was asked with, `values` those after the walk, `old` the marks.
module _ (ask : Ask) (forced : List Value) (free k : ℕ) (before values : List Value) (n : ℕ) (old : List Bool) (root : Value) where
  abbrev asks : Query
  asks = asked ask forced free

  abbrev here : List Bool
  here = settings_at ask.start (free - k) before

  -- the next variable's node
  abbrev next : ℕ
  next = ask.start + (free - k)

  -- what is known before the first call
  module _ (sound : Sound asks) (stands : Stands asks here before) (value : root ≡ lit (reads (values_of asks.gates (reads forced) (take (1 + ask.variables) before))) asks.root)
      (kept : take (1 + ask.variables) values ≡ take (1 + ask.variables) before) (not_false : root ≢ False) (not_true : root ≢ True) (fits : k ≤ free) (left : k ≢ 0) (some : n ≢ 0)
      (marked_all : length old ≡ length forced) where
    long : length here + k ≡ free
    long = omega (arith, length_settings asks sound here (free - k) before (omega arith) stands)

    at : next ≡ ask.start + length here
    at = omega (arith, long)

    some_left : 1 ≤ k
    some_left = omega arith

    some_steps : 1 ≤ n
    some_steps = omega arith

    unknown : root_at asks here ≡ Unknown
    unknown = sym (value ∙ ap (λ vs. lit (reads (values_of asks.gates (reads forced) vs)) asks.root) stands) ∙ unknown_left root not_false not_true

    size : length old ≡ nodes asks
    size = marked_all ∙ sound.covered

    -- the settings of the first child
    first_stands : Stands asks (here ++ (false ∷ [])) (set values next False)
    first_stands = set_stands asks sound k here long some_left false next values at (kept ∙ stands)

    first_is : settings_at ask.start (free - (k - 1)) (set values next False) ≡ here ++ (false ∷ [])
    first_is = child_settings asks sound k here long some_left false (set values next False) first_stands

    pub first_asked : Stands asks (settings_at ask.start (free - (k - 1)) (set values next False)) (set values next False)
    first_asked = subst (λ s. Stands asks s (set values next False)) (sym first_is) first_stands

    pub node_first : (r : Reply) (after : List Value) (marks : List Bool) (last : List Value) → r ≡ reply_of (answer_at ask forced free (k - 1) (set values next False)) (n - 1) → ((m : ℕ) → r ≢ NoMove m) →
        after ≡ range_after (answer_at ask forced free (k - 1) (set values next False)) (n - 1) free → (r' : Reply) → r' ≡ later 1 r → Ended asks k here n r' after old marks last
    node_first r after marks last reply other range r' is =
        ended_first asks sound k here long some_left n some_steps unknown old size r after marks last (reply ∙ ap (λ s. reply_of (tree asks (k - 1) s) (n - 1)) first_is) other
        (range ∙ ap (λ s. range_after (tree asks (k - 1) s) (n - 1) free) first_is) r' is

    -- after a no move of the first child in m steps, which left the values `low` and the marks `middle`; `room` is as long as the range
    module _ (m : ℕ) (middle : List Bool) (low : List Value) (reply : NoMove m ≡ reply_of (answer_at ask forced free (k - 1) (set values next False)) (n - 1))
        (marked : middle ≡ join old (core_of (answer_at ask forced free (k - 1) (set values next False)).outcome (length forced)))
        (same : take (1 + ask.variables) low ≡ take (1 + ask.variables) (set values next False)) (room : ℕ) (whole : room ≡ free) where
      pub second_unset : range_after (answer_at ask forced free (k - 1) (set values next False)) (n - 1) free ≡ replicate room Unknown
      second_unset = range_no_move (answer_at ask forced free (k - 1) (set values next False)) (n - 1) m free (sym reply) ∙ ap (λ z. replicate z Unknown) (sym whole)

      second_stands : Stands asks (here ++ (true ∷ [])) (set low next True)
      second_stands = turn_stands asks sound k here long some_left false true next low at (same ∙ first_stands)

      second_is : settings_at ask.start (room - (k - 1)) (set low next True) ≡ here ++ (true ∷ [])
      second_is = ap (λ z. settings_at ask.start (z - (k - 1)) (set low next True)) whole ∙ child_settings asks sound k here long some_left true (set low next True) second_stands

      pub second_asked : Stands asks (settings_at ask.start (room - (k - 1)) (set low next True)) (set low next True)
      second_asked = subst (λ s. Stands asks s (set low next True)) (sym second_is) second_stands

      second_answer : answer_at ask forced room (k - 1) (set low next True) ≡ tree asks (k - 1) (here ++ (true ∷ []))
      second_answer = ap (tree (asked ask forced room) (k - 1)) second_is ∙ ap (λ z. tree (asked ask forced z) (k - 1) (here ++ (true ∷ []))) whole

      pub node_second : (r : Reply) (after : List Value) (marks : List Bool) (last : List Value) → r ≡ reply_of (answer_at ask forced room (k - 1) (set low next True)) (n - 1 - m) →
          after ≡ range_after (answer_at ask forced room (k - 1) (set low next True)) (n - 1 - m) room →
          ((j : ℕ) → r ≡ NoMove j → marks ≡ join middle (core_of (answer_at ask forced room (k - 1) (set low next True)).outcome (length forced))) →
          ((j : ℕ) → r ≡ NoMove j → take (1 + ask.variables) last ≡ take (1 + ask.variables) (set low next True)) →
          (r' : Reply) → r' ≡ later (1 + m) r → Ended asks k here n r' after old marks (set last next Unknown)
      node_second r after marks last second range cores inputs r' is =
          let less : n - 1 - m ≡ n - (1 + m) = omega arith in
          let covered = sound.covered in
          ended_second asks sound k here long some_left n some_steps unknown old size m middle (reply ∙ ap (λ s. reply_of (tree asks (k - 1) s) (n - 1)) first_is)
          (marked ∙ ap (λ z. join old (core_of (answer_at ask forced free (k - 1) (set values next False)).outcome z)) covered ∙ ap (λ s. join old (core_of (tree asks (k - 1) s).outcome (nodes asks))) first_is)
          r after marks next last at
          (record {
            reply = second ∙ ap₂ reply_of second_answer less;
            range = range ∙ ap (λ z. range_after (answer_at ask forced room (k - 1) (set low next True)) (n - 1 - m) z) whole ∙ ap₂ (λ a z. range_after a z free) second_answer less;
            cores = λ j e. cores j e ∙ ap₂ (λ a z. join middle (core_of a.outcome z)) second_answer covered;
            inputs = λ j e. inputs j e ∙ second_stands;
          })
          r' is
