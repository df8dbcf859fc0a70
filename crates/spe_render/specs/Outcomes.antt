-- The printed text of transactions and clients. It is this project's own.
use Rattle.std.specs.Prelude.{ℕ, ◌+◌, ◌&&◌, ◌==◌, nat_lt, if◌then◌else◌, List, [], ◌∷◌, ◌++◌, codes, decimal, length}
use Rattle.hex.specs.Hex.{encode_lower}
use Rattle.byteorder.specs.Endian.{big_bytes}
use Rattle.spe_model.specs.declared.reply.Reply.{Reply}
use Rattle.spe_model.specs.declared.transcript.Cause.{Cause}
use Rattle.spe_model.specs.declared.transcript.Cause.TheVariants.{Read, Stopped, Corrupt}
use Rattle.spe_model.specs.declared.transcript.Outcome.{Outcome}
use Rattle.spe_model.specs.declared.transcript.Outcome.TheVariants.{Commit, Rollback, ReadOnly, Busy, Full, Fault, Memory}
use Rattle.spe_render.specs.Values.{line}
use Rattle.spe_render.specs.Replies.{replies_text}

-- digits without the zeros at their front; the last digit stays
abbrev pub without_zeros : List ℕ → List ℕ
without_zeros [] = []
without_zeros (d ∷ ds) = if (d == 48) && nat_lt 0 (length ds) then without_zeros ds else d ∷ ds

-- a lock word, in hexadecimal
abbrev pub word_text : ℕ → List ℕ
word_text word = codes "0x" ++ without_zeros (encode_lower (big_bytes 8 word))

-- words with a number behind them
abbrev pub numbered : List ℕ → ℕ → List ℕ
numbered words number = words ++ decimal number

abbrev pub cause_text : Cause → List ℕ
cause_text Read = codes " read"
cause_text (Stopped op) = numbered (codes " stopped ") op
cause_text (Corrupt page) = numbered (codes " corrupt ") page

-- how a transaction ended
abbrev pub ending_text : Outcome → List ℕ
ending_text (Commit number) = numbered (codes " commit ") number
ending_text (Rollback number) = numbered (codes " rollback ") number
ending_text (ReadOnly number) = numbered (codes " readonly ") number
ending_text (Busy number page word) = numbered (codes " busy ") number ++ numbered (codes " page ") page ++ (codes " word " ++ word_text word)
ending_text (Full number pages) = numbered (codes " full ") number ++ numbered (codes " pages ") pages
ending_text (Fault number cause) = numbered (codes " fault ") number ++ cause_text cause
ending_text (Memory number) = numbered (codes " memory ") number

-- the line of a transaction, by its number
abbrev pub outcome_text : ℕ → Outcome → List ℕ
outcome_text number outcome = line (numbered (codes "tx ") number ++ ending_text outcome)

-- a transaction of a client, by its number, with its replies
abbrev pub transaction_text : ℕ → Outcome × List Reply → List ℕ
transaction_text number t = outcome_text number t.0 ++ replies_text t.1

-- the transactions of a client, numbered from this one on
abbrev pub transactions_text : ℕ → List (Outcome × List Reply) → List ℕ
transactions_text number [] = []
transactions_text number (t ∷ ts) = transaction_text number t ++ transactions_text (number + 1) ts

-- a client, by its number, with its transactions
abbrev pub client_text : ℕ → List (Outcome × List Reply) → List ℕ
client_text number c = line (numbered (codes "client ") number) ++ transactions_text 1 c

-- clients, numbered from this one on
abbrev pub clients_text : ℕ → List (List (Outcome × List Reply)) → List ℕ
clients_text number [] = []
clients_text number (c ∷ cs) = client_text number c ++ clients_text (number + 1) cs

-- what a run prints of its transactions
abbrev pub rendered : List (List (Outcome × List Reply)) → List ℕ
rendered transcripts = clients_text 1 transcripts
