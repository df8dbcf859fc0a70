-- What a printed text tells. It is this project's own.
use Rattle.std.specs.Prelude.{◌≡◌, ◌^◌, ◌<◌, List, FitsSigned}
use Rattle.std.specs.Int.{w64}
use Rattle.std.specs.List.{AllByRecursion}
use Rattle.hex.specs.Hex.{IsBytes}
use Rattle.spe_model.specs.declared.value.Value.{Value}
use Rattle.spe_model.specs.declared.value.Value.TheVariants.{Null, Int, Text, Blob, Real8}
use Rattle.spe_model.specs.declared.reply.Reply.{Reply}
use Rattle.spe_model.specs.declared.reply.Reply.TheVariants.{Rows, Count, Changed, Inserted, Refused}
use Rattle.spe_model.specs.declared.transcript.Cause.{Cause}
use Rattle.spe_model.specs.declared.transcript.Cause.TheVariants.{Read, Stopped, Corrupt}
use Rattle.spe_model.specs.declared.transcript.Outcome.{Outcome}
use Rattle.spe_model.specs.declared.transcript.Outcome.TheVariants.{Commit, Rollback, ReadOnly, Busy, Full, Fault, Memory}
use Rattle.spe_render.specs.Outcomes.{rendered}

-- numbers fit 64 bits, with a sign or without as their types have it, and bytes are below 256
abbrev pub ValueFits : Value → Type 0
ValueFits Null = Unit {0}
ValueFits (Int n) = FitsSigned w64 n
ValueFits (Text t) = Unit {0}
ValueFits (Blob b) = IsBytes b
ValueFits (Real8 r) = IsBytes r

abbrev pub ReplyFits : Reply → Type 0
ReplyFits (Rows rows) = AllByRecursion (AllByRecursion ValueFits) rows
ReplyFits (Count n) = n < 2 ^ 64
ReplyFits (Changed n) = n < 2 ^ 64
ReplyFits (Inserted rowid) = FitsSigned w64 rowid
ReplyFits (Refused refusal) = Unit {0}

abbrev pub CauseFits : Cause → Type 0
CauseFits Read = Unit {0}
CauseFits (Stopped op) = op < 2 ^ 64
CauseFits (Corrupt page) = page < 2 ^ 64

abbrev pub OutcomeFits : Outcome → Type 0
OutcomeFits (Commit number) = number < 2 ^ 64
OutcomeFits (Rollback number) = number < 2 ^ 64
OutcomeFits (ReadOnly number) = number < 2 ^ 64
OutcomeFits (Busy number page word) = (number < 2 ^ 64) × (page < 2 ^ 64) × (word < 2 ^ 64)
OutcomeFits (Full number pages) = (number < 2 ^ 64) × (pages < 2 ^ 64)
OutcomeFits (Fault number cause) = (number < 2 ^ 64) × CauseFits cause
OutcomeFits (Memory number) = number < 2 ^ 64

abbrev pub TransactionFits : Outcome × List Reply → Type 0
TransactionFits t = OutcomeFits t.0 × AllByRecursion ReplyFits t.1

abbrev pub TranscriptsFit : List (List (Outcome × List Reply)) → Type 0
TranscriptsFit transcripts = AllByRecursion (AllByRecursion TransactionFits) transcripts

-- two lists of transcripts with the same text are the same list
abbrev pub TextTellsTranscripts : Type 0
TextTellsTranscripts = (a b : List (List (Outcome × List Reply))) → TranscriptsFit a → TranscriptsFit b → rendered a ≡ rendered b → a ≡ b
