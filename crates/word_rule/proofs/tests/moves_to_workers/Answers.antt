use denote.Builtin.{u8}
use denote.Param.Send.{IsSend, IsSync, sendable, part_keyless}
use Rattle.atomic_table.specs.contracts.shared.Seat.{the_row}
use Rattle.atomic_table.proofs.Sent.{seat_keyless}
use Rattle.word_rule.specs.contracts.rule.SeatView.{the_row as view_row}
use Rattle.word_rule.specs.contracts.seat.WorkSeat.{the_row as seat_row}
use Rattle.word_rule.proofs.tests.moves_to_workers.Goals as goal

-- a seat of the table owns nothing that is one thread's own, so what shares it does not either
seat_sync : IsSync (the_row u8 view_row)
seat_sync =
    let bytes : IsSend u8 = search sendable depth 20 in
    let sends : IsSend (the_row u8 view_row) =
    record {
      owned = λ d vs. (
        (λ vss. (tt, ((λ uss. (tt, tt)), tt))),
        seat_keyless u8 bytes view_row.coded.code d.table_id d.id d.me,
      );
      leaving = λ k f vs. tt;
    } in
    record { shared = λ d b o ν q. part_keyless (the_row u8 view_row) sends q d b o }

work_seat_sync : IsSync seat_row
work_seat_sync = search (sendable, seat_sync) depth 40

pub crosses_threads-requires-2-sync-T : goal.crosses_threads-requires-2-sync-T
crosses_threads-requires-2-sync-T c κs =
    record { shared = λ d b o ν. work_seat_sync.shared d b o ν }
