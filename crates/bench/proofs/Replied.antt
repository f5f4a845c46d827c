-- What a reply leaves in the play and the marks. Assumes nothing.
use Rattle.std.proofs.Common.{◌≡◌, ℕ, ◌+◌, ◌-◌, ◌≤◌, Bool, false, List, map, length, drop, replicate, Some, None, Option, sym, refl, ap, ◌∙◌, arith}
use Rattle.std.proofs.lemmas.List.{length-map, drop-drop, drop-replicate}
use Rattle.valuation.specs.declared.Value.{Value}
use Rattle.valuation.specs.declared.Value.TheVariants.{Unknown}
use Rattle.valuation.specs.Three.{of_bool}
use Rattle.search.specs.declared.Reply.{Reply}
use Rattle.search.specs.declared.Reply.TheVariants.{Move, NoMove, Spent}
use Rattle.search.specs.Queries.{Query, nodes}
use Rattle.search.specs.Answers.{Outcome, moves, loses, Answer, Right}
use Rattle.copying.specs.declared.places.Copies.{Copies}
use Rattle.asking.specs.Asked.{reply_for, play_for, marks_over}
use Rattle.runs.specs.State.{Sheet, Sheets}
use Rattle.runs.specs.Turn.{with_part, played, marked_by, answer_sheets}
use Rattle.runs.specs.Calls.{RightReply}
use Rattle.runs.proofs.Shape.{length_part, drop_part}
use Rattle.bench.specs.Turning.{move_or_zero, no_move_or_zero, sheets_after}

-- no more than the number
pub move_le : (r : Reply) (n : ℕ) → move_or_zero r n ≤ n
move_le (Move need) n = omega arith
move_le (NoMove need) n = omega arith
move_le Spent n = omega arith

pub no_move_le : (r : Reply) (n : ℕ) → no_move_or_zero r n ≤ n
no_move_le (Move need) n = omega arith
no_move_le (NoMove need) n = omega arith
no_move_le Spent n = omega arith

-- the rest of a list that is clear from a place on, n entries later
pub later : {X : Type 0} (x : X) (a n k : ℕ) (xs : List X) → drop a xs ≡ replicate (length xs - a) x → k ≡ a + n → drop k xs ≡ replicate (length xs - k) x
later x a n k xs e f =
    ap (λ j. drop j xs) f ∙ sym (drop-drop n a xs) ∙ ap (drop n) e ∙ drop-replicate n (length xs - a) x ∙ ap (λ j. replicate j x) (let g : length xs - a - n ≡ length xs - k = omega arith in g)

-- a table with this many entries in use
abbrev pub table : {X : Type 0} → Option ℕ → ℕ → List X → Sheet X
table b used xs = record { bound = b; used = used; entries = xs }

-- the play after an outcome, and after a reply
abbrev pub play_outcome : ℕ → Outcome → Sheet Value → Sheet Value
play_outcome below (moves setting) t = played below setting t
play_outcome below (loses core) t = t

abbrev pub play_reply : ℕ → Option Answer → Sheet Value → Sheet Value
play_reply below None t = t
play_reply below (Some a) t = play_outcome below a.outcome t

-- the marks after an outcome, and after a reply
abbrev pub marks_outcome : Outcome → Sheet Bool → Sheet Bool
marks_outcome (moves setting) t = t
marks_outcome (loses core) t = marked_by core t

abbrev pub marks_reply : Option Answer → Sheet Bool → Sheet Bool
marks_reply None t = t
marks_reply (Some a) t = marks_outcome a.outcome t

-- tables by their parts
parts : (p p' v v' f f' : Sheet Value) (m m' : Sheet Bool) (k : Sheet Copies) → p ≡ p' → v ≡ v' → f ≡ f' → m ≡ m' →
    ◌≡◌ {A = Sheets} (record { play = p; values = v; forced = f; marks = m; copies = k }) (record { play = p'; values = v'; forced = f'; marks = m'; copies = k })
parts p p' v v' f f' m m' k a b c d = cc

-- the tables after a reply, by their parts
pub sheets_by : (below : ℕ) (r : Option Answer) (t : Sheets) (play values forced : Sheet Value) (marks : Sheet Bool) →
    play ≡ play_reply below r t.play → values ≡ t.values → forced ≡ t.forced → marks ≡ marks_reply r t.marks →
    (record { play = play; values = values; forced = forced; marks = marks; copies = t.copies }) ≡ sheets_after below r t
sheets_by below None t play values forced marks p v f m = parts play t.play values t.values forced t.forced marks t.marks t.copies p v f m
sheets_by below (Some a) t play values forced marks p v f m = by a.outcome p m
  where
    by : (o : Outcome) → play ≡ play_outcome below o t.play → marks ≡ marks_outcome o t.marks →
        (record { play = play; values = values; forced = forced; marks = marks; copies = t.copies }) ≡ answer_sheets below o t
    by (moves x) p m = cc
    by (loses x) p m = cc

-- The play after a reply: how much of it may be set, that the rest is not, and the table.
pub record Played (below free set : ℕ) (b : Option ℕ) (r : Option Answer) (xs : List Value) : Type 0 where
  pub long : length (play_for below r xs) ≡ length xs
  pub room : below + move_or_zero (reply_for r) free ≤ length xs
  pub unset : drop (below + move_or_zero (reply_for r) free) (play_for below r xs) ≡ replicate (length xs - (below + move_or_zero (reply_for r) free)) Unknown
  pub sheet : table b (below + move_or_zero (reply_for r) free) (play_for below r xs) ≡ play_reply below r (table b set xs)

module _ (q : Query) (purse below free set : ℕ) (b : Option ℕ) (xs : List Value) (width : q.free ≡ free) (at : set ≡ below) (fits : below + free ≤ length xs)
    (clear : drop set xs ≡ replicate (length xs - set) Unknown) where
  -- nothing was played
  same : (below + 0 ≤ length xs) × (drop (below + 0) xs ≡ replicate (length xs - (below + 0)) Unknown) × (table b (below + 0) xs ≡ table b set xs)
  same = (omega arith, later Unknown set 0 (below + 0) xs clear (omega arith), ap (λ k. table b k xs) (let e : below + 0 ≡ set = omega arith in e))

  pub played_by : (r : Option Answer) → RightReply q purse r → Played below free set b r xs
  played_by None right = record { long = refl; room = same.0; unset = same.1; sheet = same.2 }
  played_by (Some a) right = by a.outcome right.0
    where
      by : (o : Outcome) → Right q o → Played below free set b (Some (record { outcome = o; need = a.need })) xs
      by (moves s) r =
          let n : length (map of_bool s) ≡ free = length-map s of_bool ∙ r.0 ∙ width in
          let room : below + length (map of_bool s) ≤ length xs = omega arith in
          record {
            long = length_part below (map of_bool s) xs room;
            room = fits;
            unset = ap (λ k. drop (below + k) (with_part below (map of_bool s) xs)) (sym n) ∙ drop_part below (map of_bool s) xs room ∙ ap (λ k. drop (below + k) xs) n ∙ later Unknown set free (below + free) xs clear (omega arith);
            sheet = ap (λ k. table b (below + k) (with_part below (map of_bool s) xs)) (sym (r.0 ∙ width));
          }
      by (loses core) r = record { long = refl; room = same.0; unset = same.1; sheet = same.2 }

-- The marks after a reply, likewise.
pub record Marked (size shown : ℕ) (b : Option ℕ) (r : Option Answer) (ms : List Bool) : Type 0 where
  pub long : length (marks_over r ms) ≡ length ms
  pub room : no_move_or_zero (reply_for r) size ≤ length ms
  pub clear : drop (no_move_or_zero (reply_for r) size) (marks_over r ms) ≡ replicate (length ms - no_move_or_zero (reply_for r) size) false
  pub sheet : table b (no_move_or_zero (reply_for r) size) (marks_over r ms) ≡ marks_reply r (table b shown ms)

module _ (q : Query) (purse size shown : ℕ) (b : Option ℕ) (ms : List Bool) (counted : nodes q ≡ size) (at : shown ≡ 0) (fits : size ≤ length ms)
    (none : drop shown ms ≡ replicate (length ms - shown) false) where
  unmarked : (0 ≤ length ms) × (ms ≡ replicate (length ms - 0) false) × (table b 0 ms ≡ table b shown ms)
  unmarked = (omega arith, ap (λ k. drop k ms) (sym at) ∙ none ∙ ap (λ k. replicate (length ms - k) false) at, ap (λ k. table b k ms) (sym at))

  pub marked_with : (r : Option Answer) → RightReply q purse r → Marked size shown b r ms
  marked_with None right = record { long = refl; room = unmarked.0; clear = unmarked.1; sheet = unmarked.2 }
  marked_with (Some a) right = by a.outcome right.0
    where
      by : (o : Outcome) → Right q o → Marked size shown b (Some (record { outcome = o; need = a.need })) ms
      by (moves s) r = record { long = refl; room = unmarked.0; clear = unmarked.1; sheet = unmarked.2 }
      by (loses core) r =
          let n : length core ≡ size = r.0 ∙ counted in
          let room : 0 + length core ≤ length ms = omega arith in
          record {
            long = length_part 0 core ms room;
            room = fits;
            clear = ap (λ k. drop k (with_part 0 core ms)) (let e : size ≡ 0 + length core = omega arith in e) ∙ drop_part 0 core ms room ∙ later false shown size (0 + length core) ms none (omega arith) ∙ ap (λ k. replicate (length ms - k) false) (let e : 0 + length core ≡ size = omega arith in e);
            sheet = ap (λ k. table b k (with_part 0 core ms)) (sym n);
          }
