use denote.Param.Send.{IsSend, IsSync, sendable, part_keyless}
use Rattle.std.specs.contracts.option.Option.{the_row as option_row}
use Rattle.atomic_table.specs.contracts.shared.Seat.{the_row}
use Rattle.atomic_table.proofs.Sent.{seat_keyless}
use Rattle.registration_desk.specs.contracts.desk.Clerk.{the_row as clerk_row}
use Rattle.registration_desk.specs.contracts.rule.ClerkView.{the_row as view_row}
use Rattle.registration_desk.specs.contracts.state.DeskState.{the_row as state_row}
use Rattle.registration_desk.proofs.state.DeskState.TheSendSync.{the_send}
use Rattle.registration_desk.proofs.tests.moves_to_threads.Goals as goal

-- what a slot may hold owns nothing that is one thread's own
slot_send : IsSend (option_row state_row)
slot_send = search (sendable, the_send) depth 20

-- nor does a seat of the table, so what shares it does not either
seat_sync : IsSync (the_row (option_row state_row) view_row)
seat_sync =
    let sends : IsSend (the_row (option_row state_row) view_row) =
    record {
      owned = λ d vs. (
        (λ vss. (tt, ((λ uss. (tt, tt)), tt))),
        seat_keyless (option_row state_row) slot_send view_row.coded.code d.table_id d.id d.me,
      );
      leaving = λ k f vs. tt;
    } in
    record {
      shared = λ d b o ν q. part_keyless (the_row (option_row state_row) view_row) sends q d b o;
    }

-- nor does a clerk
clerk_sync : IsSync clerk_row
clerk_sync = search (sendable, seat_sync) depth 40

pub crosses_threads-requires-2-sync-T : goal.crosses_threads-requires-2-sync-T
crosses_threads-requires-2-sync-T c κs =
    record { shared = λ d b o ν. clerk_sync.shared d b o ν }
