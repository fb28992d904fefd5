use Rattle.std.proofs.Common.{◌≡◌, length, ap, arith}
use Rattle.place_base.specs.declared.limits.TheConstants.{COMMA}
use Rattle.record_files.specs.Rows.{split}
use Rattle.record_files.proofs.rows.later_field.Goals as goal

-- a field that is not the last is followed by a comma
pub overflow_add-rest : goal.overflow_add-rest
overflow_add-rest c =
    let one : c.find_byte-at.result ≡ length c.loop.rest.now
    → length (split COMMA c.loop.rest.now) ≡ 1 = λ e. ap length (c.find_byte-at.ensures.whole e) in
    omega arith
