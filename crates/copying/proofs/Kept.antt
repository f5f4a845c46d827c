-- What a table keeps over a settlement that fits.
use Rattle.std.proofs.Common.{◌≡◌, ℕ, ◌+◌, ◌-◌, ◌/◌, ◌<◌, ◌≤◌, true, false, List, ◌++◌, length, get_or, take, drop, replicate, sym, ap, ◌∙◌, subst, arith}
use Rattle.std.proofs.lemmas.List.Edits.{take-paste, drop-paste}
use Rattle.std.proofs.lemmas.List.{drop-drop, drop-replicate, length-take-le, take_all}
use Rattle.std.proofs.lemmas.Bool.{cond-true, leb-true}
use Rattle.valuation.specs.Circuit.{Pair, Ascending, blank, reads}
use Rattle.copies.proofs.Core.{core_marked}
use Rattle.copies.proofs.Making.{settlement_made}
use Rattle.copying.specs.declared.lost.Lost.{Lost}
use Rattle.copying.specs.Claims.{TableKept}
use Rattle.copying.specs.Settle.{core_in, parts, new_gates, fits, table_after}
use Rattle.copying.specs.Table.{written, BlankFrom}
use Rattle.copying.proofs.Entries.{length_written}

module _ (first : ℕ) (table : List Pair) (used : ℕ) (t : Lost) (pos : 0 < first) (room : used ≤ length table) (asc : Ascending first (take used table)) (free : BlankFrom table used)
    (low : t.root.code / 2 < first + used) (fit : fits table used (new_gates first (take used table) t) ≡ true) where
  abbrev old : List Pair
  old = take used table

  abbrev news : List Pair
  news = new_gates first old t

  after : table_after first table used t ≡ written table used news
  after = cond-true (fits table used news) (written table used news) table fit

  enough : used + length news ≤ length table
  enough = leb-true (used + length news) (length table) fit

  in_use : take (used + length news) (table_after first table used t) ≡ old ++ news
  in_use = ap (take (used + length news)) after ∙ take-paste table used news (length news) room (omega arith) ∙ ap (λ hs. old ++ hs) (take_all (length news) news (omega arith))

  long : length (table_after first table used t) ≡ length table
  long = ap length after ∙ length_written table used news enough

  up : Ascending first (old ++ news)
  up =
      let l = length-take-le used table room in
      (settlement_made first old (parts t) (core_in t (first + length old)) t.root.code asc pos (omega arith)
      (λ k i. (core_marked (λ n. get_or t.core.now n false) (reads t.values.now) (first + length old) k i).0)).ascending

  rest : BlankFrom (table_after first table used t) (used + length news)
  rest =
      ap (drop (used + length news)) after ∙ drop-paste table used news (length news) room (omega arith) ∙ sym (drop-drop (length news) used table) ∙ ap (drop (length news)) free
      ∙ drop-replicate (length news) (length table - used) blank
      ∙ ap (λ k. replicate k blank) (let e : length table - used - length news ≡ length (table_after first table used t) - (used + length news) = omega (arith, long) in e)

pub table_kept : TableKept
table_kept first table used t pos room asc free low fit = record {
  in_use = in_use first table used t pos room asc free low fit;
  ascending = subst (Ascending first) (sym (in_use first table used t pos room asc free low fit)) (up first table used t pos room asc free low fit);
  blank = rest first table used t pos room asc free low fit;
  long = long first table used t pos room asc free low fit;
}
