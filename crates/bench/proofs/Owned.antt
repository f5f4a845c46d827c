-- What a bench knows of its own tables, and of its level. Assumes nothing.
use Rattle.std.proofs.Common.{◌≡◌, ℕ, suc, ◌+◌, ◌/◌, ◌<◌, ◌≤◌, true, length, vec_items, ap, ◌∙◌, inl, inr, arith}
use Rattle.std.proofs.lemmas.Bool.{and_parts, leb-true, eqb-true, cases_lt}
use Rattle.std.proofs.lemmas.List.{get_or_past, length-map, length-take}
use Rattle.circuit.specs.Gates.{pair}
use Rattle.question.specs.declared.prefix.Quantifier.TheVariants.{Existential}
use Rattle.question.specs.declared.prefix.Block.{Block}
use Rattle.question.specs.declared.frame.Frame.{Frame}
use Rattle.question.specs.Blocks.{total}
use Rattle.question.specs.Rules.{blocks_of}
use Rattle.runs.specs.declared.Phase.TheVariants.{Playing}
use Rattle.runs.specs.declared.Desk.{Desk}
use Rattle.runs.specs.State.{GateSheet, Sheets, State, before, width, first_node, root_at, own}
use Rattle.runs.specs.State as state
use Rattle.runs.proofs.Shape.{Room, room_from, before_suc, before_total}
use Rattle.bench.specs.declared.GateTable.{GateTable}
use Rattle.bench.specs.declared.Lists.{Lists}
use Rattle.bench.specs.Model.{gate_sheet, sheets_of, state_of}
use Rattle.bench.specs.Turning.{level_of, Ready}

-- the parts of a bench's own tables
pub record Owned (s : State) : Type 0 where
  pub level : s.desk.depth ≤ length s.blocks
  pub first : s.gates.first ≡ first_node s.blocks
  pub used : s.gates.used ≡ s.desk.gates
  pub played : s.sheets.play.used ≡ before s.blocks s.desk.depth
  pub shown : s.sheets.marks.used ≡ state.shown s.desk.phase (first_node s.blocks + s.desk.gates)
  pub room : Room (total s.blocks) (length s.gates.entries) s.sheets

pub owned : (s : State) → own s ≡ true → Owned s
owned s h =
    let a = and_parts _ _ h in
    let b = and_parts _ _ a.0 in
    let c = and_parts _ _ b.1 in
    let d = and_parts _ _ c.0 in
    let e = and_parts _ _ d.0 in
    let f = and_parts _ _ e.0 in
    record {
      level = leb-true _ _ f.0;
      first = eqb-true _ _ f.1;
      used = eqb-true _ _ e.1;
      played = eqb-true _ _ d.1;
      shown = eqb-true _ _ c.1;
      room = room_from _ _ s.sheets a.1;
    }

-- a frame has few variables, and its blocks are small
pub few_variables : (f : Frame) → total (blocks_of f.prefix) ≤ 128
few_variables f = omega (arith, f.prefix.summed, f.prefix.small)

pub few_blocks : (f : Frame) → length (blocks_of f.prefix) ≤ 16
few_blocks f = omega (arith, length-take f.prefix.count f.prefix.blocks, f.prefix.few)

pub small_block : (f : Frame) (d : ℕ) → width (blocks_of f.prefix) d ≤ 40
small_block f d =
    elim (cases_lt d (length (blocks_of f.prefix))) [
      | inl low ↦ (f.sized d low).1
      | inr high ↦ omega (arith, ap (λ (b : Block). b.size) (get_or_past (blocks_of f.prefix) d (record { quantifier = Existential; size = 0 }) high))
    ]

pub inside_block : (f : Frame) (d : ℕ) → before (blocks_of f.prefix) d + width (blocks_of f.prefix) d ≤ total (blocks_of f.prefix)
inside_block f d = omega (arith, before_suc (blocks_of f.prefix) d, before_total (blocks_of f.prefix) (suc d))

-- with its own tables, a bench that has a ticket out may ask
pub ready : (f : Frame) (d : Desk) (g : GateTable) (l : Lists) → own (state_of f d (gate_sheet g) (sheets_of l)) ≡ true → d.phase ≡ Playing →
    ((j : ℕ) → root_at d j / 2 < first_node (blocks_of f.prefix) + d.gates) → Ready (level_of f d) g l
ready f d g l h playing rooted =
    let o = owned (state_of f d (gate_sheet g) (sheets_of l)) h in
    let r = o.room in
    let n = length-map (vec_items g.table.entries) pair in
    record {
      variables = few_variables f;
      first = o.first;
      rooted = omega (arith, rooted (suc d.depth), o.first, o.used);
      inside = inside_block f d.depth;
      few_free = small_block f d.depth;
      play = omega (arith, r.play, l.play.entries.ok.0);
      set = o.played;
      values = omega (arith, r.values, n, g.table.room, o.first, g.table.entries.ok.0, l.values.entries.ok.0);
      forced = omega (arith, r.forced, n, g.table.room, o.first, g.table.entries.ok.0, l.forced.entries.ok.0);
      marks = omega (arith, r.marks, n, g.table.room, o.first, g.table.entries.ok.0, l.marks.entries.ok.0);
      shown = o.shown ∙ ap (λ p. state.shown p (first_node (blocks_of f.prefix) + d.gates)) playing;
    }
