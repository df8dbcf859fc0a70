-- The text of transactions and clients tells them.
use Rattle.std.proofs.Common.{◌≡◌, ◌≢◌, ℕ, zero, suc, ◌+◌, ◌*◌, ◌/◌, ◌%◌, ◌<◌, ◌≤◌, ◌==◌, nat_lt, Bool, true, false, not, ◌&&◌, if◌then◌else◌, List, [], ◌∷◌, ◌++◌, get_or, ap, arith, refl, sym, ◌∙◌, decimal, codes, length}
use Rattle.std.proofs.Math.Nat.{mod-eq_of_lt}
use Rattle.std.specs.Int.{byte_at, bytes_high_first}
use Rattle.std.specs.List.{AllByRecursion}
use Rattle.std.proofs.lemmas.Bool.{and_parts, eqb-true}
use Rattle.std.proofs.lemmas.List.{append_assoc, append_cancel_left}
use Rattle.byteorder.specs.Endian.{big_bytes, big_from}
use Rattle.byteorder.specs.Numbers.{big_from-bytes, length-bytes_high_first}
use Rattle.hex.specs.Hex.{encode_lower, encode_with, lower_digits}
use Rattle.hex.proofs.HexLemmas.{length-encode_with}
use Rattle.spe_model.specs.declared.reply.Reply.{Reply}
use Rattle.spe_model.specs.declared.transcript.Cause.{Cause}
use Rattle.spe_model.specs.declared.transcript.Cause.TheVariants.{Read, Stopped, Corrupt}
use Rattle.spe_model.specs.declared.transcript.Outcome.{Outcome}
use Rattle.spe_model.specs.declared.transcript.Outcome.TheVariants.{Commit, Rollback, ReadOnly, Busy, Full, Fault, Memory}
use Rattle.spe_render.specs.Law.{CauseFits, OutcomeFits, TextTellsTranscripts, TransactionFits}
use Rattle.spe_render.specs.Values.{line}
use Rattle.spe_render.specs.Replies.{replies_text}
use Rattle.spe_render.specs.Outcomes.{cause_text, client_text, clients_text, ending_text, numbered, outcome_text, transaction_text, transactions_text, without_zeros, word_text}
use Rattle.spe_render.proofs.ReadLemmas.{Few, NoDigit, Reads, head, list_reads, number_reads, span}
use Rattle.spe_render.proofs.ValueReads.{hex_injective}
use Rattle.spe_render.proofs.ReplyReads.{Anything, NoReply, NotLine, and_second, line_no_digit, lineless, replies_read}

-- ---- lock words

lineless_at : (l : List ℕ) → lineless l ≡ true → (i : ℕ) → NotLine (get_or l i 0)
lineless_at [] f i e = absurd (omega (arith, e))
lineless_at (d ∷ ds) f zero e = absurd (grind (arith, e, f))
lineless_at (d ∷ ds) f (suc i) e = lineless_at ds (and_second (not (d == 10)) (lineless ds) f) i e

hex_lineless : (b : List ℕ) → AllByRecursion NotLine (encode_lower b)
unfolding encode_with
hex_lineless [] = tt
hex_lineless (b ∷ bs) = (lineless_at lower_digits refl (b / 16), (lineless_at lower_digits refl (b % 16), hex_lineless bs))

zeros_all : (P : ℕ → Type 0) (l : List ℕ) → AllByRecursion P l → AllByRecursion P (without_zeros l)
zeros_all P [] a = tt
zeros_all P (d ∷ ds) a = by_test ((d == 48) && nat_lt 0 (length ds)) (zeros_all P ds a.1)
  where
    by_test : (v : Bool) → AllByRecursion P (without_zeros ds) → AllByRecursion P (if v then without_zeros ds else d ∷ ds)
    by_test true rest = rest
    by_test false rest = a

zeros_length : (l : List ℕ) → length (without_zeros l) ≤ length l
zeros_length [] = omega arith
zeros_length (d ∷ ds) = by_test ((d == 48) && nat_lt 0 (length ds)) (zeros_length ds)
  where
    by_test : (v : Bool) → length (without_zeros ds) ≤ length ds → length (if v then without_zeros ds else d ∷ ds) ≤ length (d ∷ ds)
    by_test true few = omega (arith, few)
    by_test false few = omega arith

zeros_injective : (a b : List ℕ) → length a ≡ length b → without_zeros a ≡ without_zeros b → a ≡ b
zeros_injective [] [] same e = refl
zeros_injective [] (d ∷ ds) same e = absurd (omega (arith, same))
zeros_injective (d ∷ ds) [] same e = absurd (omega (arith, same))
zeros_injective (d ∷ ds) (f ∷ fs) same e = by_tests (zeros_injective ds fs (omega (arith, same))) ((d == 48) && nat_lt 0 (length ds)) ((f == 48) && nat_lt 0 (length fs)) refl refl e
  where
    by_tests : (without_zeros ds ≡ without_zeros fs → ds ≡ fs) → (v u : Bool) → ((d == 48) && nat_lt 0 (length ds)) ≡ v → ((f == 48) && nat_lt 0 (length fs)) ≡ u
        → (if v then without_zeros ds else d ∷ ds) ≡ (if u then without_zeros fs else f ∷ fs) → d ∷ ds ≡ f ∷ fs
    by_tests ih true true vd vf e =
        let zero_d = eqb-true d 48 (and_parts (d == 48) (nat_lt 0 (length ds)) vd).0 in
        let zero_f = eqb-true f 48 (and_parts (f == 48) (nat_lt 0 (length fs)) vf).0 in
        let rest = ih e in
        ap (λ z. z ∷ ds) (zero_d ∙ sym zero_f) ∙ ap (λ l. f ∷ l) rest
    by_tests ih true false vd vf e = let few = zeros_length ds in let size = ap length e in absurd (omega (arith, few, size, same))
    by_tests ih false true vd vf e = let few = zeros_length fs in let size = ap length e in absurd (omega (arith, few, size, same))
    by_tests ih false false vd vf e = e

byte_below : (k n : ℕ) → byte_at k n < 256
byte_below zero n = omega arith
byte_below (suc k) n = omega arith

are_bytes : (k n i : ℕ) → get_or (bytes_high_first k n) i 0 < 256
are_bytes zero n i = omega arith
are_bytes (suc k) n zero = byte_below k n
are_bytes (suc k) n (suc i) = are_bytes k n i

word_back : (v : ℕ) → Few v → big_from 0 8 (big_bytes 8 v ++ []) ≡ v
word_back v few = big_from-bytes 8 v [] ∙ mod-eq_of_lt (omega (arith, few))

word_size : (v : ℕ) → length (encode_lower (big_bytes 8 v)) ≡ 16
word_size v = let a = length-encode_with lower_digits (big_bytes 8 v) in let b = length-bytes_high_first 8 v in omega (arith, a, b)

words_same : (v w : ℕ) → Few v → Few w → without_zeros (encode_lower (big_bytes 8 v)) ≡ without_zeros (encode_lower (big_bytes 8 w)) → v ≡ w
words_same v w fv fw e =
    let digits = zeros_injective (encode_lower (big_bytes 8 v)) (encode_lower (big_bytes 8 w)) (word_size v ∙ sym (word_size w)) e in
    let bytes = hex_injective (big_bytes 8 v) (big_bytes 8 w) (are_bytes 8 v) (are_bytes 8 w) digits in
    sym (word_back v fv) ∙ ap (λ l. big_from 0 8 (l ++ [])) bytes ∙ word_back w fw

word_reads : (v w : ℕ) (x y : List ℕ) → Few v → Few w → word_text v ++ 10 ∷ x ≡ word_text w ++ 10 ∷ y → (v ≡ w) × (x ≡ y)
word_reads v w x y fv fw e =
    let cut = append_cancel_left (codes "0x") (without_zeros (encode_lower (big_bytes 8 v)) ++ 10 ∷ x) (without_zeros (encode_lower (big_bytes 8 w)) ++ 10 ∷ y) e in
    let r = span NotLine (without_zeros (encode_lower (big_bytes 8 v))) (without_zeros (encode_lower (big_bytes 8 w))) (10 ∷ x) (10 ∷ y)
    (zeros_all NotLine (encode_lower (big_bytes 8 v)) (hex_lineless (big_bytes 8 v))) (zeros_all NotLine (encode_lower (big_bytes 8 w)) (hex_lineless (big_bytes 8 w)))
    (λ n. n refl) (λ n. n refl) cut in
    (words_same v w fv fw r.0, append_cancel_left (10 ∷ []) x y r.1)

-- ---- the ends of transactions

behind_words : (words : List ℕ) (m n : ℕ) (x y : List ℕ) → Few m → Few n → NoDigit x → NoDigit y → numbered words m ++ x ≡ numbered words n ++ y → (m ≡ n) × (x ≡ y)
behind_words words m n x y fm fn nx ny e =
    number_reads m n x y fm fn nx ny
    (append_cancel_left words (decimal m ++ x) (decimal n ++ y) (sym (append_assoc words (decimal m) x) ∙ e ∙ append_assoc words (decimal n) y))

last_number : (words : List ℕ) (m n : ℕ) (x y : List ℕ) → Few m → Few n → numbered words m ++ 10 ∷ x ≡ numbered words n ++ 10 ∷ y → (m ≡ n) × (x ≡ y)
last_number words m n x y fm fn e =
    let r = behind_words words m n (10 ∷ x) (10 ∷ y) fm fn (line_no_digit x) (line_no_digit y) e in
    (r.0, append_cancel_left (10 ∷ []) x y r.1)

-- the kind of an end, by two bytes of its text
abbrev kind_at : List ℕ → ℕ
kind_at l = get_or l 1 0 * 256 + get_or l 2 0

abbrev cause_kind : Cause → ℕ
cause_kind Read = kind_at (codes " read")
cause_kind (Stopped op) = kind_at (codes " stopped")
cause_kind (Corrupt page) = kind_at (codes " corrupt")

cause_kind_is : (c : Cause) (x : List ℕ) → kind_at (cause_text c ++ x) ≡ cause_kind c
cause_kind_is Read x = refl
cause_kind_is (Stopped op) x = refl
cause_kind_is (Corrupt page) x = refl

cause_reads : (c d : Cause) (x y : List ℕ) → CauseFits c → CauseFits d → cause_text c ++ 10 ∷ x ≡ cause_text d ++ 10 ∷ y → (c ≡ d) × (x ≡ y)
cause_reads c d x y fc fd e = by_kind c d fc fd (sym (cause_kind_is c (10 ∷ x)) ∙ ap kind_at e ∙ cause_kind_is d (10 ∷ y)) e
  where
    by_kind : (c d : Cause) → CauseFits c → CauseFits d → cause_kind c ≡ cause_kind d → cause_text c ++ 10 ∷ x ≡ cause_text d ++ 10 ∷ y → (c ≡ d) × (x ≡ y)
    by_kind Read Read fa fb k e = (refl, append_cancel_left (codes " read" ++ 10 ∷ []) x y e)
    by_kind (Stopped m) (Stopped n) fa fb k e = let r = last_number (codes " stopped ") m n x y fa fb e in (ap Stopped r.0, r.1)
    by_kind (Corrupt m) (Corrupt n) fa fb k e = let r = last_number (codes " corrupt ") m n x y fa fb e in (ap Corrupt r.0, r.1)
    by_kind Read (Stopped n) fa fb k e = absurd (omega (arith, k))
    by_kind Read (Corrupt n) fa fb k e = absurd (omega (arith, k))
    by_kind (Stopped m) Read fa fb k e = absurd (omega (arith, k))
    by_kind (Stopped m) (Corrupt n) fa fb k e = absurd (omega (arith, k))
    by_kind (Corrupt m) Read fa fb k e = absurd (omega (arith, k))
    by_kind (Corrupt m) (Stopped n) fa fb k e = absurd (omega (arith, k))

cause_no_digit : (c : Cause) (x : List ℕ) → NoDigit (cause_text c ++ x)
cause_no_digit Read x d = absurd (omega (arith, d))
cause_no_digit (Stopped op) x d = absurd (omega (arith, d))
cause_no_digit (Corrupt page) x d = absurd (omega (arith, d))

abbrev kind : Outcome → ℕ
kind (Commit number) = kind_at (codes " commit")
kind (Rollback number) = kind_at (codes " rollback")
kind (ReadOnly number) = kind_at (codes " readonly")
kind (Busy number page word) = kind_at (codes " busy")
kind (Full number pages) = kind_at (codes " full")
kind (Fault number cause) = kind_at (codes " fault")
kind (Memory number) = kind_at (codes " memory")

kind_is : (o : Outcome) (x : List ℕ) → kind_at (ending_text o ++ x) ≡ kind o
kind_is (Commit number) x = refl
kind_is (Rollback number) x = refl
kind_is (ReadOnly number) x = refl
kind_is (Busy number page word) x = refl
kind_is (Full number pages) x = refl
kind_is (Fault number cause) x = refl
kind_is (Memory number) x = refl

busy_as : (n p w : ℕ) (z : List ℕ) → ending_text (Busy n p w) ++ z ≡ numbered (codes " busy ") n ++ (numbered (codes " page ") p ++ (codes " word " ++ (word_text w ++ z)))
busy_as n p w z =
    append_assoc (numbered (codes " busy ") n ++ numbered (codes " page ") p) (codes " word " ++ word_text w) z
    ∙ append_assoc (numbered (codes " busy ") n) (numbered (codes " page ") p) (codes " word " ++ (word_text w ++ z))

busy_reads : (m p v n q w : ℕ) (x y : List ℕ) → OutcomeFits (Busy m p v) → OutcomeFits (Busy n q w) → ending_text (Busy m p v) ++ 10 ∷ x ≡ ending_text (Busy n q w) ++ 10 ∷ y
    → (Busy m p v ≡ Busy n q w) × (x ≡ y)
busy_reads m p v n q w x y fa fb e =
    let first = behind_words (codes " busy ") m n (numbered (codes " page ") p ++ (codes " word " ++ (word_text v ++ 10 ∷ x))) (numbered (codes " page ") q ++ (codes " word " ++ (word_text w ++ 10 ∷ y)))
    fa.0 fb.0 (λ d. absurd (omega (arith, d))) (λ d. absurd (omega (arith, d))) (sym (busy_as m p v (10 ∷ x)) ∙ e ∙ busy_as n q w (10 ∷ y)) in
    let second = behind_words (codes " page ") p q (codes " word " ++ (word_text v ++ 10 ∷ x)) (codes " word " ++ (word_text w ++ 10 ∷ y))
    fa.1 fb.1 (λ d. absurd (omega (arith, d))) (λ d. absurd (omega (arith, d))) first.1 in
    let third = word_reads v w x y fa.2 fb.2 (append_cancel_left (codes " word ") (word_text v ++ 10 ∷ x) (word_text w ++ 10 ∷ y) second.1) in
    (ap (λ z. Busy z p v) first.0 ∙ ap (λ z. Busy n z v) second.0 ∙ ap (λ z. Busy n q z) third.0, third.1)

full_reads : (m p n q : ℕ) (x y : List ℕ) → OutcomeFits (Full m p) → OutcomeFits (Full n q) → ending_text (Full m p) ++ 10 ∷ x ≡ ending_text (Full n q) ++ 10 ∷ y → (Full m p ≡ Full n q) × (x ≡ y)
full_reads m p n q x y fa fb e =
    let first = behind_words (codes " full ") m n (numbered (codes " pages ") p ++ 10 ∷ x) (numbered (codes " pages ") q ++ 10 ∷ y)
    fa.0 fb.0 (λ d. absurd (omega (arith, d))) (λ d. absurd (omega (arith, d)))
    (sym (append_assoc (numbered (codes " full ") m) (numbered (codes " pages ") p) (10 ∷ x)) ∙ e ∙ append_assoc (numbered (codes " full ") n) (numbered (codes " pages ") q) (10 ∷ y)) in
    let second = last_number (codes " pages ") p q x y fa.1 fb.1 first.1 in
    (ap (λ z. Full z p) first.0 ∙ ap (λ z. Full n z) second.0, second.1)

fault_reads : (m n : ℕ) (c d : Cause) (x y : List ℕ) → OutcomeFits (Fault m c) → OutcomeFits (Fault n d) → ending_text (Fault m c) ++ 10 ∷ x ≡ ending_text (Fault n d) ++ 10 ∷ y
    → (Fault m c ≡ Fault n d) × (x ≡ y)
fault_reads m n c d x y fa fb e =
    let first = behind_words (codes " fault ") m n (cause_text c ++ 10 ∷ x) (cause_text d ++ 10 ∷ y) fa.0 fb.0 (cause_no_digit c (10 ∷ x)) (cause_no_digit d (10 ∷ y))
    (sym (append_assoc (numbered (codes " fault ") m) (cause_text c) (10 ∷ x)) ∙ e ∙ append_assoc (numbered (codes " fault ") n) (cause_text d) (10 ∷ y)) in
    let second = cause_reads c d x y fa.1 fb.1 first.1 in
    (ap (λ z. Fault z c) first.0 ∙ ap (λ z. Fault n z) second.0, second.1)

ending_reads : (a b : Outcome) (x y : List ℕ) → OutcomeFits a → OutcomeFits b → ending_text a ++ 10 ∷ x ≡ ending_text b ++ 10 ∷ y → (a ≡ b) × (x ≡ y)
ending_reads a b x y fa fb e = by_kind a b fa fb (sym (kind_is a (10 ∷ x)) ∙ ap kind_at e ∙ kind_is b (10 ∷ y)) e
  where
    by_kind : (a b : Outcome) → OutcomeFits a → OutcomeFits b → kind a ≡ kind b → ending_text a ++ 10 ∷ x ≡ ending_text b ++ 10 ∷ y → (a ≡ b) × (x ≡ y)
    by_kind (Commit m) (Commit n) fa fb k e = let r = last_number (codes " commit ") m n x y fa fb e in (ap Commit r.0, r.1)
    by_kind (Rollback m) (Rollback n) fa fb k e = let r = last_number (codes " rollback ") m n x y fa fb e in (ap Rollback r.0, r.1)
    by_kind (ReadOnly m) (ReadOnly n) fa fb k e = let r = last_number (codes " readonly ") m n x y fa fb e in (ap ReadOnly r.0, r.1)
    by_kind (Busy m p v) (Busy n q w) fa fb k e = busy_reads m p v n q w x y fa fb e
    by_kind (Full m p) (Full n q) fa fb k e = full_reads m p n q x y fa fb e
    by_kind (Fault m c) (Fault n d) fa fb k e = fault_reads m n c d x y fa fb e
    by_kind (Memory m) (Memory n) fa fb k e = let r = last_number (codes " memory ") m n x y fa fb e in (ap Memory r.0, r.1)
    by_kind (Commit m) (Rollback n) fa fb k e = absurd (omega (arith, k))
    by_kind (Commit m) (ReadOnly n) fa fb k e = absurd (omega (arith, k))
    by_kind (Commit m) (Busy n q w) fa fb k e = absurd (omega (arith, k))
    by_kind (Commit m) (Full n q) fa fb k e = absurd (omega (arith, k))
    by_kind (Commit m) (Fault n d) fa fb k e = absurd (omega (arith, k))
    by_kind (Commit m) (Memory n) fa fb k e = absurd (omega (arith, k))
    by_kind (Rollback m) (Commit n) fa fb k e = absurd (omega (arith, k))
    by_kind (Rollback m) (ReadOnly n) fa fb k e = absurd (omega (arith, k))
    by_kind (Rollback m) (Busy n q w) fa fb k e = absurd (omega (arith, k))
    by_kind (Rollback m) (Full n q) fa fb k e = absurd (omega (arith, k))
    by_kind (Rollback m) (Fault n d) fa fb k e = absurd (omega (arith, k))
    by_kind (Rollback m) (Memory n) fa fb k e = absurd (omega (arith, k))
    by_kind (ReadOnly m) (Commit n) fa fb k e = absurd (omega (arith, k))
    by_kind (ReadOnly m) (Rollback n) fa fb k e = absurd (omega (arith, k))
    by_kind (ReadOnly m) (Busy n q w) fa fb k e = absurd (omega (arith, k))
    by_kind (ReadOnly m) (Full n q) fa fb k e = absurd (omega (arith, k))
    by_kind (ReadOnly m) (Fault n d) fa fb k e = absurd (omega (arith, k))
    by_kind (ReadOnly m) (Memory n) fa fb k e = absurd (omega (arith, k))
    by_kind (Busy m p v) (Commit n) fa fb k e = absurd (omega (arith, k))
    by_kind (Busy m p v) (Rollback n) fa fb k e = absurd (omega (arith, k))
    by_kind (Busy m p v) (ReadOnly n) fa fb k e = absurd (omega (arith, k))
    by_kind (Busy m p v) (Full n q) fa fb k e = absurd (omega (arith, k))
    by_kind (Busy m p v) (Fault n d) fa fb k e = absurd (omega (arith, k))
    by_kind (Busy m p v) (Memory n) fa fb k e = absurd (omega (arith, k))
    by_kind (Full m p) (Commit n) fa fb k e = absurd (omega (arith, k))
    by_kind (Full m p) (Rollback n) fa fb k e = absurd (omega (arith, k))
    by_kind (Full m p) (ReadOnly n) fa fb k e = absurd (omega (arith, k))
    by_kind (Full m p) (Busy n q w) fa fb k e = absurd (omega (arith, k))
    by_kind (Full m p) (Fault n d) fa fb k e = absurd (omega (arith, k))
    by_kind (Full m p) (Memory n) fa fb k e = absurd (omega (arith, k))
    by_kind (Fault m c) (Commit n) fa fb k e = absurd (omega (arith, k))
    by_kind (Fault m c) (Rollback n) fa fb k e = absurd (omega (arith, k))
    by_kind (Fault m c) (ReadOnly n) fa fb k e = absurd (omega (arith, k))
    by_kind (Fault m c) (Busy n q w) fa fb k e = absurd (omega (arith, k))
    by_kind (Fault m c) (Full n q) fa fb k e = absurd (omega (arith, k))
    by_kind (Fault m c) (Memory n) fa fb k e = absurd (omega (arith, k))
    by_kind (Memory m) (Commit n) fa fb k e = absurd (omega (arith, k))
    by_kind (Memory m) (Rollback n) fa fb k e = absurd (omega (arith, k))
    by_kind (Memory m) (ReadOnly n) fa fb k e = absurd (omega (arith, k))
    by_kind (Memory m) (Busy n q w) fa fb k e = absurd (omega (arith, k))
    by_kind (Memory m) (Full n q) fa fb k e = absurd (omega (arith, k))
    by_kind (Memory m) (Fault n d) fa fb k e = absurd (omega (arith, k))

-- ---- transactions and clients

outcome_as : (n : ℕ) (o : Outcome) (x : List ℕ) → outcome_text n o ++ x ≡ numbered (codes "tx ") n ++ (ending_text o ++ 10 ∷ x)
outcome_as n o x =
    append_assoc (numbered (codes "tx ") n ++ ending_text o) (10 ∷ []) x ∙ append_assoc (numbered (codes "tx ") n) (ending_text o) (10 ∷ x)

outcome_reads : (n : ℕ) → Reads OutcomeFits (outcome_text n) Anything
outcome_reads n a b x y fa fb ex ey e =
    ending_reads a b x y fa fb
    (append_cancel_left (numbered (codes "tx ") n) (ending_text a ++ 10 ∷ x) (ending_text b ++ 10 ∷ y) (sym (outcome_as n a x) ∙ e ∙ outcome_as n b y))

transaction_reads : (n : ℕ) → Reads TransactionFits (transaction_text n) NoReply
transaction_reads n (o, rs) (p, ss) x y fa fb ex ey e =
    let first = outcome_reads n o p (replies_text rs ++ x) (replies_text ss ++ y) fa.0 fb.0 tt tt
    (sym (append_assoc (outcome_text n o) (replies_text rs) x) ∙ e ∙ append_assoc (outcome_text n p) (replies_text ss) y) in
    let rest = replies_read rs ss x y fa.1 fb.1 ex ey first.1 in
    (ap (λ z. (z, rs)) first.0 ∙ ap (λ l. (p, l)) rest.0, rest.1)

-- no more transactions
abbrev NoTransaction : List ℕ → Type 0
NoTransaction x = (head x ≢ 116) × (head x ≢ 32)

no_reply_yet : (n : ℕ) (rest : List (Outcome × List Reply)) (x : List ℕ) → NoTransaction x → NoReply (transactions_text n rest ++ x)
no_reply_yet n [] x ex = ex.1
no_reply_yet n (t ∷ ts) x ex = λ e. absurd (omega (arith, e))

transaction_apart : (n : ℕ) (t : Outcome × List Reply) (z x : List ℕ) → TransactionFits t → NoTransaction x → transaction_text n t ++ z ≡ x → ⊥
transaction_apart n t z x f ex e = ex.0 (sym (ap head e))

transactions_read : (n : ℕ) → Reads (AllByRecursion TransactionFits) (transactions_text n) NoTransaction
transactions_read =
    list_reads TransactionFits NoTransaction NoReply transactions_text transaction_text (λ n. refl) (λ n t ts. refl) transaction_reads no_reply_yet transaction_apart

client_reads : (n : ℕ) → Reads (AllByRecursion TransactionFits) (client_text n) NoTransaction
client_reads n a b x y fa fb ex ey e =
    transactions_read 1 a b x y fa fb ex ey
    (append_cancel_left (line (numbered (codes "client ") n)) (transactions_text 1 a ++ x) (transactions_text 1 b ++ y)
    (sym (append_assoc (line (numbered (codes "client ") n)) (transactions_text 1 a) x) ∙ e ∙ append_assoc (line (numbered (codes "client ") n)) (transactions_text 1 b) y))

abbrev AtEnd : List ℕ → Type 0
AtEnd x = x ≡ []

no_transaction_yet : (n : ℕ) (rest : List (List (Outcome × List Reply))) (x : List ℕ) → AtEnd x → NoTransaction (clients_text n rest ++ x)
no_transaction_yet n [] x ex = (λ e. let c = sym (ap head ex) ∙ e in absurd (omega (arith, c)), λ e. let c = sym (ap head ex) ∙ e in absurd (omega (arith, c)))
no_transaction_yet n (c ∷ cs) x ex = (λ e. absurd (omega (arith, e)), λ e. absurd (omega (arith, e)))

client_apart : (n : ℕ) (c : List (Outcome × List Reply)) (z x : List ℕ) → AllByRecursion TransactionFits c → AtEnd x → client_text n c ++ z ≡ x → ⊥
client_apart n c z x f ex e = let k : 99 ≡ 0 = ap head (e ∙ ex) in absurd (omega (arith, k))

clients_read : (n : ℕ) → Reads (AllByRecursion (AllByRecursion TransactionFits)) (clients_text n) AtEnd
clients_read =
    list_reads (AllByRecursion TransactionFits) AtEnd NoTransaction clients_text client_text (λ n. refl) (λ n c cs. refl) client_reads no_transaction_yet client_apart

pub text_tells : TextTellsTranscripts
text_tells a b fa fb e = (clients_read 1 a b [] [] fa fb refl refl (ap (λ l. l ++ []) e)).0
