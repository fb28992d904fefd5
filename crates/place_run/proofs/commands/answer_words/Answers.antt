use Rattle.std.proofs.Common.{◌≡◌, Ok, sym, arith}
use Rattle.std.specs.Prelude.{string_bytes}
use Rattle.std.proofs.lemmas.List.{length-map}
use Rattle.command_words.specs.Words.{command_of, texts}
use Rattle.command_words.specs.declared.words.Command.TheVariants.{Place, Base, Reasons, Audit, Fixed, Sweep, Second, Make}
use Rattle.command_words.proofs.Fitting.{fits}
use Rattle.place_run.proofs.Answering.{words-refused}
use Rattle.place_run.proofs.Summaries.{summarised}
use Rattle.place_run.proofs.commands.answer_words.Goals as goal

pub place-requires-clause-words : goal.place-requires-clause-words
place-requires-clause-words g c κs within =
    let words = c.args.words.now in
    let given : command_of (texts words) ≡ Ok (Place c.in-Ok-Place.workers) = cc
    (c.read_words.ensures, c.in-Ok-Place.is, c.in-Ok-Place.field-0-is, c.in-Ok-Place.workers-is) in
    let enough = (fits (texts words) (Place c.in-Ok-Place.workers) given).words in
    omega (arith, enough, length-map words string_bytes)

pub place-requires-clause-workers : goal.place-requires-clause-workers
place-requires-clause-workers g c κs within =
    let words = c.args.words.now in
    let given : command_of (texts words) ≡ Ok (Place c.in-Ok-Place.workers) = cc
    (c.read_words.ensures, c.in-Ok-Place.is, c.in-Ok-Place.field-0-is, c.in-Ok-Place.workers-is) in
    (fits (texts words) (Place c.in-Ok-Place.workers) given).workers

pub base-requires-clause-words : goal.base-requires-clause-words
base-requires-clause-words g c κs within =
    let words = c.args.words.now in
    let given : command_of (texts words) ≡ Ok (Base c.in-Ok-Base.workers) = cc
    (c.read_words.ensures, c.in-Ok-Base.is, c.in-Ok-Base.field-0-is, c.in-Ok-Base.workers-is) in
    let enough = (fits (texts words) (Base c.in-Ok-Base.workers) given).words in
    omega (arith, enough, length-map words string_bytes)

pub base-requires-clause-workers : goal.base-requires-clause-workers
base-requires-clause-workers g c κs within =
    let words = c.args.words.now in
    let given : command_of (texts words) ≡ Ok (Base c.in-Ok-Base.workers) = cc
    (c.read_words.ensures, c.in-Ok-Base.is, c.in-Ok-Base.field-0-is, c.in-Ok-Base.workers-is) in
    (fits (texts words) (Base c.in-Ok-Base.workers) given).workers

pub fixed-requires-clause-words : goal.fixed-requires-clause-words
fixed-requires-clause-words g c κs within =
    let words = c.args.words.now in
    let given : command_of (texts words) ≡ Ok (Fixed c.in-Ok-Fixed.workers) = cc
    (c.read_words.ensures, c.in-Ok-Fixed.is, c.in-Ok-Fixed.field-0-is, c.in-Ok-Fixed.workers-is) in
    let enough = (fits (texts words) (Fixed c.in-Ok-Fixed.workers) given).words in
    omega (arith, enough, length-map words string_bytes)

pub fixed-requires-clause-workers : goal.fixed-requires-clause-workers
fixed-requires-clause-workers g c κs within =
    let words = c.args.words.now in
    let given : command_of (texts words) ≡ Ok (Fixed c.in-Ok-Fixed.workers) = cc
    (c.read_words.ensures, c.in-Ok-Fixed.is, c.in-Ok-Fixed.field-0-is, c.in-Ok-Fixed.workers-is) in
    (fits (texts words) (Fixed c.in-Ok-Fixed.workers) given).workers

pub sweep-requires-clause-words : goal.sweep-requires-clause-words
sweep-requires-clause-words g c κs within =
    let words = texts c.args.words.now in
    let asked = c.in-Ok-Sweep in
    let command = Sweep asked.code asked.low asked.high asked.workers in
    let given : command_of words ≡ Ok command = cc
    (c.read_words.ensures, asked.is, asked.field-0-is) in
    let enough = (fits words command given).words in
    omega (arith, enough, length-map c.args.words.now string_bytes)

pub sweep-requires-clause-rising : goal.sweep-requires-clause-rising
sweep-requires-clause-rising g c κs within =
    let words = texts c.args.words.now in
    let asked = c.in-Ok-Sweep in
    let command = Sweep asked.code asked.low asked.high asked.workers in
    let given : command_of words ≡ Ok command = cc
    (c.read_words.ensures, asked.is, asked.field-0-is) in
    (fits words command given).sizes.rising

pub sweep-requires-clause-quotas : goal.sweep-requires-clause-quotas
sweep-requires-clause-quotas g c κs within =
    let words = texts c.args.words.now in
    let asked = c.in-Ok-Sweep in
    let command = Sweep asked.code asked.low asked.high asked.workers in
    let given : command_of words ≡ Ok command = cc
    (c.read_words.ensures, asked.is, asked.field-0-is) in
    let few = (fits words command given).sizes.high_fits in omega (arith, few)

pub sweep-requires-clause-rows : goal.sweep-requires-clause-rows
sweep-requires-clause-rows g c κs within =
    let words = texts c.args.words.now in
    let asked = c.in-Ok-Sweep in
    let command = Sweep asked.code asked.low asked.high asked.workers in
    let given : command_of words ≡ Ok command = cc
    (c.read_words.ensures, asked.is, asked.field-0-is) in
    let few = (fits words command given).sizes.few in omega (arith, few)

pub sweep-requires-clause-workers : goal.sweep-requires-clause-workers
sweep-requires-clause-workers g c κs within =
    let words = texts c.args.words.now in
    let asked = c.in-Ok-Sweep in
    let command = Sweep asked.code asked.low asked.high asked.workers in
    let given : command_of words ≡ Ok command = cc
    (c.read_words.ensures, asked.is, asked.field-0-is) in
    (fits words command given).workers

pub second-requires-clause-words : goal.second-requires-clause-words
second-requires-clause-words g c κs within =
    let words = c.args.words.now in
    let given : command_of (texts words) ≡ Ok (Second c.in-Ok-Second.workers) = cc (
      c.read_words.ensures,
      c.in-Ok-Second.is,
      c.in-Ok-Second.field-0-is,
      c.in-Ok-Second.workers-is,
    ) in
    let enough = (fits (texts words) (Second c.in-Ok-Second.workers) given).words in
    omega (arith, enough, length-map words string_bytes)

pub second-requires-clause-workers : goal.second-requires-clause-workers
second-requires-clause-workers g c κs within =
    let words = c.args.words.now in
    let given : command_of (texts words) ≡ Ok (Second c.in-Ok-Second.workers) = cc (
      c.read_words.ensures,
      c.in-Ok-Second.is,
      c.in-Ok-Second.field-0-is,
      c.in-Ok-Second.workers-is,
    ) in
    (fits (texts words) (Second c.in-Ok-Second.workers) given).workers

pub reasons-requires-clause-words : goal.reasons-requires-clause-words
reasons-requires-clause-words g c κs within =
    let words = c.args.words.now in
    let given : command_of (texts words) ≡ Ok (Reasons c.in-Ok-Reasons.workers) = cc (
      c.read_words.ensures,
      c.in-Ok-Reasons.is,
      c.in-Ok-Reasons.field-0-is,
      c.in-Ok-Reasons.workers-is,
    ) in
    let enough = (fits (texts words) (Reasons c.in-Ok-Reasons.workers) given).words in
    omega (arith, enough, length-map words string_bytes)

pub reasons-requires-clause-workers : goal.reasons-requires-clause-workers
reasons-requires-clause-workers g c κs within =
    let words = c.args.words.now in
    let given : command_of (texts words) ≡ Ok (Reasons c.in-Ok-Reasons.workers) = cc (
      c.read_words.ensures,
      c.in-Ok-Reasons.is,
      c.in-Ok-Reasons.field-0-is,
      c.in-Ok-Reasons.workers-is,
    ) in
    (fits (texts words) (Reasons c.in-Ok-Reasons.workers) given).workers

pub audit-requires-clause-words : goal.audit-requires-clause-words
audit-requires-clause-words g c κs within =
    let words = c.args.words.now in
    let given : command_of (texts words) ≡ Ok (Audit c.in-Ok-Audit.workers) = cc
    (c.read_words.ensures, c.in-Ok-Audit.is, c.in-Ok-Audit.field-0-is, c.in-Ok-Audit.workers-is) in
    let enough = (fits (texts words) (Audit c.in-Ok-Audit.workers) given).words in
    omega (arith, enough, length-map words string_bytes)

pub audit-requires-clause-workers : goal.audit-requires-clause-workers
audit-requires-clause-workers g c κs within =
    let words = c.args.words.now in
    let given : command_of (texts words) ≡ Ok (Audit c.in-Ok-Audit.workers) = cc
    (c.read_words.ensures, c.in-Ok-Audit.is, c.in-Ok-Audit.field-0-is, c.in-Ok-Audit.workers-is) in
    (fits (texts words) (Audit c.in-Ok-Audit.workers) given).workers

pub returns-in-Err-clause-answers : goal.returns-in-Err-clause-answers
returns-in-Err-clause-answers g c =
    words-refused _ (texts c.args.words.now) _ c.in-Err.refused _ (sym c.in-Err.ensures)

pub make-requires-clause-candidates : goal.make-requires-clause-candidates
make-requires-clause-candidates g c κs within =
    let words = texts c.args.words.now in
    let made = c.in-Ok-Make in
    let command = Make made.seed made.candidates made.programmes made.types made.workers in
    let given : command_of words ≡ Ok command = cc
    (c.read_words.ensures, made.is, made.field-0-is) in
    let few = (fits words command given).sizes.candidates_fit in omega (arith, few)

pub make-requires-clause-programmes : goal.make-requires-clause-programmes
make-requires-clause-programmes g c κs within =
    let words = texts c.args.words.now in
    let made = c.in-Ok-Make in
    let command = Make made.seed made.candidates made.programmes made.types made.workers in
    let given : command_of words ≡ Ok command = cc
    (c.read_words.ensures, made.is, made.field-0-is) in
    let few = (fits words command given).sizes.programmes_fit in omega (arith, few)

pub make-requires-clause-types : goal.make-requires-clause-types
make-requires-clause-types g c κs within =
    let words = texts c.args.words.now in
    let made = c.in-Ok-Make in
    let command = Make made.seed made.candidates made.programmes made.types made.workers in
    let given : command_of words ≡ Ok command = cc
    (c.read_words.ensures, made.is, made.field-0-is) in
    let sizes = (fits words command given).sizes in
    let few = sizes.types_fit in (sizes.some_type, omega (arith, few))

pub make-requires-clause-workers : goal.make-requires-clause-workers
make-requires-clause-workers g c κs within =
    let words = texts c.args.words.now in
    let made = c.in-Ok-Make in
    let command = Make made.seed made.candidates made.programmes made.types made.workers in
    let given : command_of words ≡ Ok command = cc
    (c.read_words.ensures, made.is, made.field-0-is) in
    (fits words command given).workers

pub returns-in-Ok-Make-clause-answers : goal.returns-in-Ok-Make-clause-answers
returns-in-Ok-Make-clause-answers g c =
    let words = texts c.args.words.now in
    let made = c.in-Ok-Make in
    let command = Make made.seed made.candidates made.programmes made.types made.workers in
    let given : command_of words ≡ Ok command = cc
    (c.read_words.ensures, made.is, made.field-0-is) in
    summarised _ words _ made.seed made.candidates made.programmes made.types made.workers
    c.make.result _ given c.make.ensures
