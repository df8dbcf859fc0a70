-- Saving pages in the journal.
use Rattle.std.proofs.Common.{◌≡◌, ℕ, ◌+◌, ◌-◌, ◌*◌, ◌<◌, ◌≤◌, List, [], ◌∷◌, ◌++◌, length, take, drop, refl, arith, sym, ap, subst, ◌∙◌, Bool, true, false, cond, Option, Some, None, Ok}
use Rattle.std.specs.Prelude.{nat_le}
use Rattle.std.proofs.lemmas.Bool.Decides.{nat_tests}
use Rattle.std.proofs.lemmas.List.{append-nil}
use Rattle.spe_model.specs.declared.file.FileNo.TheVariants.{Database, Journal}
use Rattle.spe_model.specs.Content.{Content, bytes_of, zeros}
use Rattle.spe_model.specs.Header.{page_size_at}
use Rattle.spe_model.specs.Paging.{Paging}
use Rattle.spe_model.specs.Recovery.{file_page, file_page_size}
use Rattle.spe_model.specs.Trace.{History, made_by, present}
use Rattle.spe_model.specs.Trace.Operation.{Write}
use Rattle.spe_disk.specs.Told.{Adds, ReadsBytes}
use Rattle.spe_crash.proofs.FileLemmas.{journal_leaves}
use Rattle.spe_crash.proofs.PlaceLemmas.{ends_mono, page_end}
use Rattle.spe_rewrite.specs.declared.change.Change.{Change}
use Rattle.spe_rewrite.specs.Changes.{Ascend}
use Rattle.spe_rewrite.specs.Rewrite.{old_changes, savings}
use Rattle.spe_disk.specs.Added.{AddsCut, IfTold, Makes, MakesCut}
use Rattle.spe_rewrite.specs.Told.{KeepsFile}
use Rattle.spe_rewrite.proofs.LeftLemmas.{HasLeft, left_broken, left_first, left_next, left_none, present_after}

pub KeepsFile-same : (told : Option History) → KeepsFile told told
KeepsFile-same None = refl
KeepsFile-same (Some h) = refl

pub KeepsFile-trans : (old middle new : Option History) → KeepsFile old middle → KeepsFile middle new → KeepsFile old new
KeepsFile-trans None None new a b = b
KeepsFile-trans None (Some k) new a b = absurd cc
KeepsFile-trans (Some h) None new a b = absurd a
KeepsFile-trans (Some h) (Some k) None a b = absurd b
KeepsFile-trans (Some h) (Some k) (Some l) a b = b ∙ a

journal_write_leaves : (content : Content) (at : ℕ) (bytes : List ℕ) → bytes_of (made_by (Write (Journal 0) at bytes) content) Database ≡ bytes_of content Database
journal_write_leaves content at [] = refl
journal_write_leaves content at (b ∷ bs) = journal_leaves content 0 _

-- a write of the journal leaves the file
pub journal_keeps : (old new : Option History) (at : ℕ) (bytes : List ℕ) → Adds old new (Write (Journal 0) at bytes ∷ []) → KeepsFile old new
journal_keeps None new at bytes adds = adds
journal_keeps (Some h) None at bytes adds = absurd cc
journal_keeps (Some h) (Some k) at bytes adds =
    let same : k ≡ record { first = h.first; trace = h.trace ++ Write (Journal 0) at bytes ∷ [] } = cc in
    ap (λ (c : Content). bytes_of c Database) (present_after h (Write (Journal 0) at bytes ∷ []) k same) ∙ journal_write_leaves (present h) at bytes

-- and so the pages of the file
pub same_pages : (content now : Content) → bytes_of now Database ≡ bytes_of content Database → file_page now ≡ file_page content
same_pages content now same =
    let pages : List ℕ → Paging = λ f p. take (page_size_at (take 100 f)) (drop ((p - 1) * page_size_at (take 100 f)) f) in
    ap pages same

-- what is so of the file's bytes stays so
pub keeps_told : (old new : Option History) (P : List ℕ → Type 0) → KeepsFile old new → IfTold old (λ content. P (bytes_of content Database)) → IfTold new (λ content. P (bytes_of content Database))
keeps_told None None P keeps holds = tt
keeps_told None (Some k) P keeps holds = absurd cc
keeps_told (Some h) None P keeps holds = tt
keeps_told (Some h) (Some k) P keeps holds = subst P (sym keeps) holds

-- a page was read that lies within the file
pub page_read : (told : Option History) (number size at count : ℕ) (bytes : List ℕ) → 1 ≤ number → at ≡ (number - 1) * size
    → IfTold told (λ content. file_page_size content ≡ size) → IfTold told (λ content. number * size ≤ length (bytes_of content Database))
    → ReadsBytes told Database at size bytes (Ok count) → IfTold told (λ content. bytes ≡ file_page content number)
page_read None number size at count bytes some is sized within reads = tt
page_read (Some h) number size at count bytes some is sized within reads =
    let file = bytes_of (present h) Database in
    let ends : (number - 1) * size + size ≡ number * size = page_end number size some in
    let none : size - (length file - at) ≡ 0 = omega (arith, ends, is, within) in
    reads.0 ∙ ap (λ (n : ℕ). take size (drop at file) ++ zeros n) none ∙ append-nil (take size (drop at file)) ∙ ap (λ (a : ℕ). take size (drop a file)) is
    ∙ ap (λ (s : ℕ). take s (drop ((number - 1) * s) file)) (sym sized)

-- a page up to the count lies within the file
pub page_within : (told : Option History) (number count size : ℕ) → number ≤ count → IfTold told (λ content. count * size ≤ length (bytes_of content Database))
    → IfTold told (λ content. number * size ≤ length (bytes_of content Database))
page_within None number count size low whole = tt
page_within (Some h) number count size low whole = let below : number * size ≤ count * size = ends_mono number count size low in omega (arith, below, whole)

-- the records of a page and of those behind it
saving_parts : (old : Paging) (size nonce saved count : ℕ) (c : Change) (cs : List Change)
    → savings old size nonce saved (old_changes count (c ∷ cs))
    ≡ savings old size nonce saved (old_changes count (c ∷ [])) ++ savings old size nonce (saved + length (old_changes count (c ∷ []))) (old_changes count cs)
saving_parts old size nonce saved count c cs = by_test (nat_le c.page count)
  where
    by_test : (b : Bool)
        → savings old size nonce saved (cond b (c ∷ old_changes count cs) (old_changes count cs))
        ≡ savings old size nonce saved (cond b (c ∷ []) []) ++ savings old size nonce (saved + length (cond b (c ∷ []) [])) (old_changes count cs)
    by_test true = refl
    by_test false = let same : saved + 0 ≡ saved = omega arith in rw same refl

pub old_parts : (count : ℕ) (c : Change) (cs : List Change) → length (old_changes count (c ∷ cs)) ≡ length (old_changes count (c ∷ [])) + length (old_changes count cs)
old_parts count c cs = by_test (nat_le c.page count)
  where
    by_test : (b : Bool) → length (cond b (c ∷ old_changes count cs) (old_changes count cs)) ≡ length (cond b (c ∷ []) []) + length (old_changes count cs)
    by_test true = omega arith
    by_test false = omega arith

pub old_few : (count : ℕ) (c : Change) → length (old_changes count (c ∷ [])) ≤ 1
old_few count c = by_test (nat_le c.page count)
  where
    by_test : (b : Bool) → length (cond b (c ∷ []) []) ≤ 1
    by_test true = omega arith
    by_test false = omega arith

pub old_none : (count : ℕ) (c : Change) → count < c.page → old_changes count (c ∷ []) ≡ []
old_none count c above = let no : nat_le c.page count ≡ false = grind (arith, nat_tests) in rw no refl

pub old_one : (count : ℕ) (c : Change) → c.page ≤ count → old_changes count (c ∷ []) ≡ c ∷ []
old_one count c below = let yes : nat_le c.page count ≡ true = grind (arith, nat_tests) in rw yes refl

-- as many records as pages below one that is still to come
abbrev pub IsPlaced : (saved : ℕ) → List Change → Type 0
IsPlaced saved left = (below : ℕ) × Ascend below left × (saved ≤ below)

pub placed_first : (saved : ℕ) (left cs : List Change) (c : Change) → left ≡ c ∷ cs → IsPlaced saved left → saved < c.page
placed_first saved left cs c is placed = let here : IsPlaced saved (c ∷ cs) = subst (IsPlaced saved) is placed in omega (arith, here.1.0, here.2)

pub placed_next : (saved count now : ℕ) (left cs : List Change) (c : Change) → left ≡ c ∷ cs → now ≡ saved + length (old_changes count (c ∷ [])) → IsPlaced saved left → IsPlaced now cs
placed_next saved count now left cs c is more placed =
    let here : IsPlaced saved (c ∷ cs) = subst (IsPlaced saved) is placed in
    let few = old_few count c in
    (c.page, here.1.1, omega (arith, more, few, here.1.0, here.2))

pub counted_next : (saved count now all : ℕ) (left cs : List Change) (c : Change) → left ≡ c ∷ cs → now ≡ saved + length (old_changes count (c ∷ []))
    → saved + length (old_changes count left) ≡ all → now + length (old_changes count cs) ≡ all
counted_next saved count now all left cs c is more counted =
    let parts = old_parts count c cs in
    let here : saved + length (old_changes count (c ∷ cs)) ≡ all = subst (λ (l : List Change). saved + length (old_changes count l) ≡ all) is counted in
    omega (arith, more, parts, here)

-- the records of some pages are still to be written
abbrev pub HasSavingsLeft : (size nonce count saved : ℕ) (first now : Option History) → (all left : List Change) → Type 0
HasSavingsLeft size nonce count saved first now all left =
    IfTold first (λ content. HasLeft first now (savings (file_page content) size nonce 0 (old_changes count all)) (savings (file_page content) size nonce saved (old_changes count left)))

pub savings_first : (size nonce count : ℕ) (told : Option History) (all : List Change) → HasSavingsLeft size nonce count 0 told told all all
savings_first size nonce count None all = tt
savings_first size nonce count (Some h) all = left_first (Some h) (savings (file_page (present h)) size nonce 0 (old_changes count all))

pub savings_turn : (size nonce count saved more : ℕ) (first now next : Option History) (all left cs : List Change) (c : Change) → left ≡ c ∷ cs
    → more ≡ saved + length (old_changes count (c ∷ [])) → KeepsFile first now
    → Makes now next (λ content. savings (file_page content) size nonce saved (old_changes count (c ∷ []))) → HasSavingsLeft size nonce count saved first now all left
    → HasSavingsLeft size nonce count more first next all cs
savings_turn size nonce count saved more None now next all left cs c is more_is keeps makes begun = tt
savings_turn size nonce count saved more (Some h) None next all left cs c is more_is keeps makes begun = absurd keeps
savings_turn size nonce count saved more (Some h) (Some k) next all left cs c is more_is keeps makes begun =
    let old = file_page (present h) in
    let same : file_page (present k) ≡ old = same_pages (present h) (present k) keeps in
    left_next (Some h) (Some k) next _ _ _ _
    (ap (λ (l : List Change). savings old size nonce saved (old_changes count l)) is ∙ saving_parts old size nonce saved count c cs
    ∙ ap (λ (n : ℕ). savings old size nonce saved (old_changes count (c ∷ [])) ++ savings old size nonce n (old_changes count cs)) (sym more_is))
    (subst (λ (pages : Paging). Adds (Some k) next (savings pages size nonce saved (old_changes count (c ∷ [])))) same makes) begun

pub savings_broken : (size nonce count saved : ℕ) (first now next : Option History) (all left cs : List Change) (c : Change) → left ≡ c ∷ cs → KeepsFile first now
    → MakesCut now next (λ content. savings (file_page content) size nonce saved (old_changes count (c ∷ []))) → HasSavingsLeft size nonce count saved first now all left
    → MakesCut first next (λ content. savings (file_page content) size nonce 0 (old_changes count all))
savings_broken size nonce count saved None now next all left cs c is keeps cut begun = tt
savings_broken size nonce count saved (Some h) None next all left cs c is keeps cut begun = absurd keeps
savings_broken size nonce count saved (Some h) (Some k) next all left cs c is keeps cut begun =
    let old = file_page (present h) in
    let same : file_page (present k) ≡ old = same_pages (present h) (present k) keeps in
    left_broken (Some h) (Some k) next _ _ _ _ (ap (λ (l : List Change). savings old size nonce saved (old_changes count l)) is ∙ saving_parts old size nonce saved count c cs)
    (subst (λ (pages : Paging). AddsCut (Some k) next (savings pages size nonce saved (old_changes count (c ∷ [])))) same cut) begun

pub savings_none : (size nonce count saved : ℕ) (first now : Option History) (all left : List Change) → left ≡ [] → KeepsFile first now → HasSavingsLeft size nonce count saved first now all left
    → Makes first now (λ content. savings (file_page content) size nonce 0 (old_changes count all))
savings_none size nonce count saved None now all left none keeps begun = by_none now keeps
  where
    by_none : (t : Option History) → KeepsFile None t → t ≡ None
    by_none t keeps = keeps
savings_none size nonce count saved (Some h) now all left none keeps begun =
    left_none (Some h) now _ _ (ap (λ (l : List Change). savings (file_page (present h)) size nonce saved (old_changes count l)) none) begun
