-- What each of the two files says is by its first fault and its table, and each fault stands on a
-- line.
use Rattle.std.proofs.Common.{◌<◌, ℕ, zero, suc, refl}
use Rattle.place_base.specs.declared.fault.FileKind.TheVariants as file
use Rattle.placement_file.specs.Requests.{requests_fault, requests_in, requests_rules}
use Rattle.placement_file.specs.SeatLists.{reading_alone, seats_fault, seats_in, seats_rules}
use Rattle.record_files.specs.Rows.{Row}
use Rattle.run_frame.proofs.JudgedTables.{Judges}
use Rattle.run_frame.proofs.TableFaults.{HasLine, line-file, line-first, line-if, line-none, line-reading, line-repeat}
use Rattle.registration_desk.specs.Says.{placement_said, requests_said}

line-alone : (version : ℕ) (row : Row) → 0 < row.0 → HasLine (reading_alone version row)
line-alone zero row some = search (some, line-first, line-reading)
line-alone (suc version) row some = search (some, line-first, line-if, line-reading)

-- that of a placement file
pub placement-judges : Judges file.Placement placement_said seats_fault seats_in
unfolding placement_said
placement-judges = record {
  says = λ bytes. refl;
  lined = λ bytes. line-file seats_rules bytes (record {
    reading = line-alone;
    meaning = λ version earlier row some. search (some, line-repeat);
  });
}

-- that of a registrations file
pub requests-judges : Judges file.Registrations requests_said requests_fault requests_in
unfolding requests_said
requests-judges = record {
  says = λ bytes. refl;
  lined = λ bytes. line-file requests_rules bytes (record {
    reading = λ version row some. search (some, line-reading);
    meaning = λ version earlier row some. line-none;
  });
}
