use Rattle.std.proofs.Common.{◌≡◌, ◌+◌, ◌-◌, ◌<◌, List, ℕ, length, take, drop, arith, take_all, length-drop}
use Rattle.record_files.proofs.FieldCuts.{AddsEnd, CutTo-next, IsCutAt-end}
use Rattle.record_files.proofs.rows.cut.Goals as goal

rest-taken : (text : List ℕ) (start : ℕ)
    → take (length text - start) (drop start text) ≡ drop start text
rest-taken text start = take_all (length text - start) (drop start text)
    (omega (arith, length-drop start text))

pub returns-then-end-text : goal.returns-then-end-text
returns-then-end-text c =
    let text = c.args.text.now in
    let start = c.fields.start in
    let size = length-drop start text in
    let a : AddsEnd c.fields.cuts.ends c.add.new.self.ends c.fields.cuts.count
    (start + c.find_byte.result) =
    record { here = c.add.ensures.here; before = c.add.ensures.before } in
    let all : c.find_byte.result ≡ length (drop start text) = omega arith in
    let found = rw (rest-taken text start) at c.find_byte.ensures in
    rw c.add.ensures.count
    (IsCutAt-end text _ _ c.fields.cuts.count start c.find_byte.result c.fields.invariant a all
    (found.whole all))

pub fields-preserved : goal.fields-preserved
fields-preserved c =
    let text = c.args.text.now in
    let start = c.fields.start in
    let size = length-drop start text in
    let a : AddsEnd c.fields.cuts.ends c.add.new.self.ends c.fields.cuts.count
    (start + c.find_byte.result) =
    record { here = c.add.ensures.here; before = c.add.ensures.before } in
    let found = rw (rest-taken text start) at c.find_byte.ensures in
    let more : c.find_byte.result < length (drop start text) = omega (arith, found.bound) in
    rw c.add.ensures.count
    (CutTo-next text _ _ c.fields.cuts.count start c.find_byte.result c.fields.invariant a more
    (found.cut more))
