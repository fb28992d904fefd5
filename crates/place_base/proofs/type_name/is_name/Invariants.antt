use Rattle.std.proofs.Common.{◌≡◌, drop}
use Rattle.std.specs.List.{list_all}
use Rattle.place_base.specs.TypeName.{is_type_byte}
use Rattle.place_base.proofs.type_name.is_name.Given as goal

-- what is left decides
abbrev pub invariant-loop-byte : goal.invariant-loop-byte
invariant-loop-byte l =
    list_all is_type_byte l.bytes ≡ list_all is_type_byte (drop l.byte-index l.bytes)
