use Rattle.std.proofs.Common.{◌≡◌, ℕ, ◌-◌, ◌*◌, ◌<◌, ◌≤◌, List, length, get_or, take, drop, Ok, vec_items, sym, ap, ◌∙◌, subst, arith, rules}
use Rattle.std.proofs.lemmas.List.{length-take, length-drop}
use Rattle.circuit.specs.Gates.{empty}
use Rattle.question.specs.declared.prefix.Block.{Block}
use Rattle.question.specs.Loading.{Entry, refused, unfit, loaded, shown}
use Rattle.question.proofs.Kept.{bytes_long, made}
use Rattle.question.proofs.Laws.{accepted_exactly, refused_exactly, one_encoding}
use Rattle.question.proofs.loading.load.Goals as goal

pub slice_bounds-fill-count : goal.slice_bounds-fill-count
slice_bounds-fill-count c = omega (arith, bytes_long c.args.bytes.now c.in-Ok.frame c.in-Ok.ensures.0, ap length c.blocks-in-Ok.ensures.value)

pub slice_bounds-fill-start : goal.slice_bounds-fill-start
slice_bounds-fill-start c =
    let h : 7 * length c.blocks-in-Ok.result.now ≤ length c.args.bytes.now = slice_bounds-fill-count c in
    search rules

pub fill-requires : goal.fill-requires
fill-requires c = simp (length-take, length-drop) (omega (arith, bytes_long c.args.bytes.now c.in-Ok.frame c.in-Ok.ensures.0, ap length c.blocks-in-Ok.ensures.value, c.gates.ensures))

pub join-requires : goal.join-requires
join-requires c =
    let m = made c.args.bytes.now c.in-Ok.frame c.args.table c.len.result c.in-Ok.ensures c.len.ensures c.blocks-in-Ok.result.now c.blocks-in-Ok.ensures.value c.gates.result c.gates.ensures c.fill.new.table (omega arith) c.fill.ensures in
    record { room = m.room; small = m.small; free = m.free; ascending = m.well_formed.good.ascending }

pub returns-in-Ok : goal.returns-in-Ok
returns-in-Ok c =
    let bytes = c.args.bytes.now in
    let m = made c.args.bytes.now c.in-Ok.frame c.args.table c.len.result c.in-Ok.ensures c.len.ensures c.blocks-in-Ok.result.now c.blocks-in-Ok.ensures.value c.gates.result c.gates.ensures c.fill.new.table (omega arith) c.fill.ensures in
    let is : shown (Ok c.join.result) ≡ loaded bytes (vec_items c.args.table) = rw (c.join.ensures.frame, c.join.ensures.table) m.result in
    record { result = is; accepted_exactly = accepted_exactly bytes (vec_items c.args.table) _ m.right is; refused_exactly = refused_exactly bytes (vec_items c.args.table) _ m.right is; one_encoding = one_encoding }

pub returns-in-Err : goal.returns-in-Err
returns-in-Err c =
    let bytes = c.args.bytes.now in
    let table = vec_items c.args.table in
    let why = c.in-Err.refusal in
    let is = sym (c.in-Err.ensures.1 table (sym c.args.table.ok.0 ∙ sym c.len.ensures)) in
    let right = c.in-Err.ensures.0 in
    record { result = is; accepted_exactly = accepted_exactly bytes table (refused why table) right is; refused_exactly = refused_exactly bytes table (refused why table) right is; one_encoding = one_encoding }
