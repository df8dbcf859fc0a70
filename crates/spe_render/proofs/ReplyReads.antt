-- The text of replies tells them.
use Rattle.std.proofs.Common.{◌≡◌, ◌≢◌, ℕ, ◌+◌, ◌*◌, ◌==◌, Bool, true, false, not, ◌&&◌, if◌then◌else◌, List, [], ◌∷◌, ◌++◌, get_or, ap, arith, refl, sym, ◌∙◌, decimal, codes, length, ℤ}
use Rattle.std.specs.Fmt.{signed_decimal}
use Rattle.std.specs.List.{AllByRecursion}
use Rattle.std.proofs.lemmas.Bool.{true≢false}
use Rattle.std.proofs.lemmas.List.{append_assoc, append_cancel_left}
use Rattle.spe_model.specs.declared.value.Value.{Value}
use Rattle.spe_model.specs.declared.reply.Refusal.{Refusal}
use Rattle.spe_model.specs.declared.reply.Refusal.TheVariants as refusals
use Rattle.spe_model.specs.declared.reply.Reply.{Reply}
use Rattle.spe_model.specs.declared.reply.Reply.TheVariants.{Rows, Count, Changed, Inserted, Refused}
use Rattle.spe_render.specs.Law.{ReplyFits, ValueFits}
use Rattle.spe_render.specs.Values.{joined}
use Rattle.spe_render.specs.Replies.{all_shown, indented, refusal_name, replies_text, reply_text, rows_reply, shown_text}
use Rattle.spe_render.proofs.ReadLemmas.{Few, NoDigit, Reads, head, list_reads, number_reads, span}
use Rattle.spe_render.proofs.ValueReads.{FitsSixtyFour, joined_reads, signed_reads}

abbrev pub Anything : List ℕ → Type 0
Anything x = Unit {0}

pub line_no_digit : (x : List ℕ) → NoDigit (10 ∷ x)
line_no_digit x d = absurd (omega (arith, d))

-- ---- rows that a statement asked for

pub shown_reads : Reads (AllByRecursion ValueFits) shown_text Anything
shown_reads a b x y fa fb ex ey e =
    let r = joined_reads a b (10 ∷ x) (10 ∷ y) fa fb refl refl
    (sym (append_assoc (joined a) (10 ∷ []) x) ∙ append_cancel_left (codes "  row ") ((joined a ++ 10 ∷ []) ++ x) ((joined b ++ 10 ∷ []) ++ y) e ∙ append_assoc (joined b) (10 ∷ []) y) in
    (r.0, append_cancel_left (10 ∷ []) x y r.1)

-- the line that counts rows
abbrev AtCount : List ℕ → Type 0
AtCount x = get_or x 5 0 ≡ 115

row_apart : (v : List Value) (z x : List ℕ) → AllByRecursion ValueFits v → AtCount x → shown_text v ++ z ≡ x → ⊥
row_apart v z x f ex e = let c : 32 ≡ 115 = ap (λ l. get_or l 5 0) e ∙ ex in absurd (omega (arith, c))

all_shown_reads : Reads (AllByRecursion (AllByRecursion ValueFits)) all_shown AtCount
all_shown_reads =
    list_reads (AllByRecursion ValueFits) AtCount Anything (λ n. all_shown) (λ n. shown_text) (λ n. refl) (λ n v vs. refl) (λ n. shown_reads) (λ n rest x e. tt) (λ n. row_apart) 0

rows_as : (rows : List (List Value)) (x : List ℕ) → rows_reply rows ++ x ≡ all_shown rows ++ (codes "  rows " ++ (decimal (length rows) ++ 10 ∷ x))
rows_as rows x =
    append_assoc (all_shown rows) (indented (codes "rows " ++ decimal (length rows))) x
    ∙ ap (λ l. all_shown rows ++ (codes "  rows " ++ l)) (append_assoc (decimal (length rows)) (10 ∷ []) x)

rows_reads : (a b : List (List Value)) (x y : List ℕ) → AllByRecursion (AllByRecursion ValueFits) a → AllByRecursion (AllByRecursion ValueFits) b
    → rows_reply a ++ x ≡ rows_reply b ++ y → (a ≡ b) × (x ≡ y)
rows_reads a b x y fa fb e =
    let r = all_shown_reads a b (codes "  rows " ++ (decimal (length a) ++ 10 ∷ x)) (codes "  rows " ++ (decimal (length b) ++ 10 ∷ y)) fa fb refl refl (sym (rows_as a x) ∙ e ∙ rows_as b y) in
    let counts = append_cancel_left (codes "  rows ") (decimal (length a) ++ 10 ∷ x) (decimal (length b) ++ 10 ∷ y) r.1 in
    let same = append_cancel_left (decimal (length b)) (10 ∷ x) (10 ∷ y) (ap (λ n. decimal (length n) ++ 10 ∷ x) (sym r.0) ∙ counts) in
    (r.0, append_cancel_left (10 ∷ []) x y same)

-- ---- lines with one number

count_reads : (words : List ℕ) (m n : ℕ) (x y : List ℕ) → Few m → Few n → words ++ ((decimal m ++ 10 ∷ []) ++ x) ≡ words ++ ((decimal n ++ 10 ∷ []) ++ y) → (m ≡ n) × (x ≡ y)
count_reads words m n x y fm fn e =
    let r = number_reads m n (10 ∷ x) (10 ∷ y) fm fn (line_no_digit x) (line_no_digit y)
    (sym (append_assoc (decimal m) (10 ∷ []) x) ∙ append_cancel_left words ((decimal m ++ 10 ∷ []) ++ x) ((decimal n ++ 10 ∷ []) ++ y) e ∙ append_assoc (decimal n) (10 ∷ []) y) in
    (r.0, append_cancel_left (10 ∷ []) x y r.1)

rowid_reads : (words : List ℕ) (m n : ℤ) (x y : List ℕ) → FitsSixtyFour m → FitsSixtyFour n
    → words ++ ((signed_decimal m ++ 10 ∷ []) ++ x) ≡ words ++ ((signed_decimal n ++ 10 ∷ []) ++ y) → (m ≡ n) × (x ≡ y)
rowid_reads words m n x y fm fn e =
    let r = signed_reads m n (10 ∷ x) (10 ∷ y) fm fn (line_no_digit x) (line_no_digit y)
    (sym (append_assoc (signed_decimal m) (10 ∷ []) x) ∙ append_cancel_left words ((signed_decimal m ++ 10 ∷ []) ++ x) ((signed_decimal n ++ 10 ∷ []) ++ y) e
    ∙ append_assoc (signed_decimal n) (10 ∷ []) y) in
    (r.0, append_cancel_left (10 ∷ []) x y r.1)

-- ---- names of refusals

abbrev same_bytes : List ℕ → List ℕ → Bool
same_bytes [] [] = true
same_bytes [] (d ∷ ds) = false
same_bytes (c ∷ cs) [] = false
same_bytes (c ∷ cs) (d ∷ ds) = (c == d) && same_bytes cs ds

abbrev refusal_of : List ℕ → Refusal
refusal_of name = if same_bytes name (codes "ReadOnly") then refusals.ReadOnly else (if same_bytes name (codes "NoTable") then refusals.NoTable else (if same_bytes name (codes "ClosedTable") then refusals.ClosedTable else (if same_bytes name (codes "NoColumn") then refusals.NoColumn else (if same_bytes name (codes "NotByRowid") then refusals.NotByRowid else (if same_bytes name (codes "Count") then refusals.Count else (if same_bytes name (codes "Class") then refusals.Class else (if same_bytes name (codes "NotNull") then refusals.NotNull else (if same_bytes name (codes "RowidFixed") then refusals.RowidFixed else (if same_bytes name (codes "RowidTaken") then refusals.RowidTaken else (if same_bytes name (codes "RowidsUsedUp") then refusals.RowidsUsedUp else (refusals.TooLarge)))))))))))

refusal_back : (r : Refusal) → refusal_of (refusal_name r) ≡ r
refusal_back refusals.ReadOnly = refl
refusal_back refusals.NoTable = refl
refusal_back refusals.ClosedTable = refl
refusal_back refusals.NoColumn = refl
refusal_back refusals.NotByRowid = refl
refusal_back refusals.Count = refl
refusal_back refusals.Class = refl
refusal_back refusals.NotNull = refl
refusal_back refusals.RowidFixed = refl
refusal_back refusals.RowidTaken = refl
refusal_back refusals.RowidsUsedUp = refl
refusal_back refusals.TooLarge = refl

abbrev pub NotLine : ℕ → Type 0
NotLine c = c ≢ 10

abbrev pub lineless : List ℕ → Bool
lineless [] = true
lineless (d ∷ ds) = not (d == 10) && lineless ds

pub and_second : (a b : Bool) → (a && b) ≡ true → b ≡ true
and_second true b e = e
and_second false b e = absurd (true≢false (sym e))

no_line : (l : List ℕ) → lineless l ≡ true → AllByRecursion NotLine l
no_line [] e = tt
no_line (d ∷ ds) e = (λ is. absurd (grind (arith, is, e)), no_line ds (and_second (not (d == 10)) (lineless ds) e))

name_lineless : (r : Refusal) → lineless (refusal_name r) ≡ true
name_lineless refusals.ReadOnly = refl
name_lineless refusals.NoTable = refl
name_lineless refusals.ClosedTable = refl
name_lineless refusals.NoColumn = refl
name_lineless refusals.NotByRowid = refl
name_lineless refusals.Count = refl
name_lineless refusals.Class = refl
name_lineless refusals.NotNull = refl
name_lineless refusals.RowidFixed = refl
name_lineless refusals.RowidTaken = refl
name_lineless refusals.RowidsUsedUp = refl
name_lineless refusals.TooLarge = refl

refused_reads : (r s : Refusal) (x y : List ℕ) → codes "  error " ++ ((refusal_name r ++ 10 ∷ []) ++ x) ≡ codes "  error " ++ ((refusal_name s ++ 10 ∷ []) ++ y) → (r ≡ s) × (x ≡ y)
refused_reads r s x y e =
    let names = span NotLine (refusal_name r) (refusal_name s) (10 ∷ x) (10 ∷ y) (no_line (refusal_name r) (name_lineless r)) (no_line (refusal_name s) (name_lineless s)) (λ n. n refl) (λ n. n refl)
    (sym (append_assoc (refusal_name r) (10 ∷ []) x) ∙ append_cancel_left (codes "  error ") ((refusal_name r ++ 10 ∷ []) ++ x) ((refusal_name s ++ 10 ∷ []) ++ y) e
    ∙ append_assoc (refusal_name s) (10 ∷ []) y) in
    (sym (refusal_back r) ∙ ap refusal_of names.0 ∙ refusal_back s, append_cancel_left (10 ∷ []) x y names.1)

-- ---- replies

-- the kind of a reply, by two bytes of its text
abbrev kind_at : List ℕ → ℕ
kind_at l = get_or l 2 0 * 256 + get_or l 3 0

abbrev kind : Reply → ℕ
kind (Rows rs) = kind_at (codes "  rows")
kind (Count n) = kind_at (codes "  count")
kind (Changed n) = kind_at (codes "  changed")
kind (Inserted n) = kind_at (codes "  inserted")
kind (Refused r) = kind_at (codes "  error")

kind_is : (r : Reply) (x : List ℕ) → kind_at (reply_text r ++ x) ≡ kind r
kind_is (Rows []) x = refl
kind_is (Rows (r ∷ rs)) x = refl
kind_is (Count n) x = refl
kind_is (Changed n) x = refl
kind_is (Inserted n) x = refl
kind_is (Refused r) x = refl

pub reply_reads : Reads ReplyFits reply_text Anything
reply_reads a b x y fa fb ex ey e = by_kind a b fa fb (sym (kind_is a x) ∙ ap kind_at e ∙ kind_is b y) e
  where
    by_kind : (a b : Reply) → ReplyFits a → ReplyFits b → kind a ≡ kind b → reply_text a ++ x ≡ reply_text b ++ y → (a ≡ b) × (x ≡ y)
    by_kind (Rows rs) (Rows ss) fa fb k e = let r = rows_reads rs ss x y fa fb e in (ap Rows r.0, r.1)
    by_kind (Count m) (Count n) fa fb k e = let r = count_reads (codes "  count ") m n x y fa fb e in (ap Count r.0, r.1)
    by_kind (Changed m) (Changed n) fa fb k e = let r = count_reads (codes "  changed ") m n x y fa fb e in (ap Changed r.0, r.1)
    by_kind (Inserted m) (Inserted n) fa fb k e = let r = rowid_reads (codes "  inserted ") m n x y fa fb e in (ap Inserted r.0, r.1)
    by_kind (Refused r) (Refused s) fa fb k e = let both = refused_reads r s x y e in (ap Refused both.0, both.1)
    by_kind (Rows rs) (Count n) fa fb k e = absurd (omega (arith, k))
    by_kind (Rows rs) (Changed n) fa fb k e = absurd (omega (arith, k))
    by_kind (Rows rs) (Inserted n) fa fb k e = absurd (omega (arith, k))
    by_kind (Rows rs) (Refused s) fa fb k e = absurd (omega (arith, k))
    by_kind (Count m) (Rows ss) fa fb k e = absurd (omega (arith, k))
    by_kind (Count m) (Changed n) fa fb k e = absurd (omega (arith, k))
    by_kind (Count m) (Inserted n) fa fb k e = absurd (omega (arith, k))
    by_kind (Count m) (Refused s) fa fb k e = absurd (omega (arith, k))
    by_kind (Changed m) (Rows ss) fa fb k e = absurd (omega (arith, k))
    by_kind (Changed m) (Count n) fa fb k e = absurd (omega (arith, k))
    by_kind (Changed m) (Inserted n) fa fb k e = absurd (omega (arith, k))
    by_kind (Changed m) (Refused s) fa fb k e = absurd (omega (arith, k))
    by_kind (Inserted m) (Rows ss) fa fb k e = absurd (omega (arith, k))
    by_kind (Inserted m) (Count n) fa fb k e = absurd (omega (arith, k))
    by_kind (Inserted m) (Changed n) fa fb k e = absurd (omega (arith, k))
    by_kind (Inserted m) (Refused s) fa fb k e = absurd (omega (arith, k))
    by_kind (Refused r) (Rows ss) fa fb k e = absurd (omega (arith, k))
    by_kind (Refused r) (Count n) fa fb k e = absurd (omega (arith, k))
    by_kind (Refused r) (Changed n) fa fb k e = absurd (omega (arith, k))
    by_kind (Refused r) (Inserted n) fa fb k e = absurd (omega (arith, k))

-- no more replies
abbrev pub NoReply : List ℕ → Type 0
NoReply x = head x ≢ 32

reply_first : (r : Reply) (x : List ℕ) → head (reply_text r ++ x) ≡ 32
reply_first (Rows []) x = refl
reply_first (Rows (r ∷ rs)) x = refl
reply_first (Count n) x = refl
reply_first (Changed n) x = refl
reply_first (Inserted n) x = refl
reply_first (Refused r) x = refl

reply_apart : (r : Reply) (z x : List ℕ) → ReplyFits r → NoReply x → reply_text r ++ z ≡ x → ⊥
reply_apart r z x f ex e = ex (sym (ap head e) ∙ reply_first r z)

pub replies_read : Reads (AllByRecursion ReplyFits) replies_text NoReply
replies_read =
    list_reads ReplyFits NoReply Anything (λ n. replies_text) (λ n. reply_text) (λ n. refl) (λ n r rs. refl) (λ n. reply_reads) (λ n rest x e. tt) (λ n. reply_apart) 0
