-- The operations that rewrite pages, in one transaction of journal 0.
use Rattle.std.specs.Prelude.{ℕ, ◌+◌, ◌*◌, Bool, nat_le, List, [], ◌∷◌, ◌++◌, map, filter}
use Rattle.spe_model.specs.declared.file.FileNo.TheVariants.{Journal}
use Rattle.spe_model.specs.Journal.{head_bytes, record_bytes}
use Rattle.spe_model.specs.Paging.{Paging}
use Rattle.spe_model.specs.Rollback.{cut_of, write_of}
use Rattle.spe_model.specs.Trace.{Operation}
use Rattle.spe_model.specs.Trace.Operation.{Write}
use Rattle.spe_rewrite.specs.declared.change.Change.{Change}

-- the head of the journal is written
abbrev pub heading : (page_size count nonce : ℕ) → Operation
heading page_size count nonce = Write (Journal 0) 0 (head_bytes nonce count page_size)

-- a page is one of so many
abbrev pub is_old : (count : ℕ) → Change → Bool
is_old count c = nat_le c.page count

-- those of the changed pages that are old, and so are saved
abbrev pub old_changes : (count : ℕ) → List Change → List Change
old_changes count changes = filter (is_old count) changes

-- the n-th record of the journal, from 0, saves a page as it was
abbrev pub saving : Paging → (page_size nonce n : ℕ) → Change → Operation
saving old page_size nonce n c = Write (Journal 0) (512 + n * (page_size + 8)) (record_bytes nonce c.page (old c.page))

-- records from the n-th on save these pages
abbrev pub savings : Paging → (page_size nonce n : ℕ) → List Change → List Operation
savings old page_size nonce n [] = []
savings old page_size nonce n (c ∷ cs) = saving old page_size nonce n c ∷ savings old page_size nonce (n + 1) cs

-- a page gets its new bytes, page 1 but for the first 24
abbrev pub putting : (page_size : ℕ) → Change → Operation
putting page_size c = write_of page_size (record { page = c.page; content = c.bytes })

-- the changed pages are written, and then the journal is cut to none
abbrev pub endings : (page_size : ℕ) → List Change → List Operation
endings page_size changes = map (putting page_size) changes ++ cut_of 0 ∷ []

-- The head, the records of the old pages, the changed pages, and the cut of the journal; nothing where no page is changed.
-- `old` are the pages as they were, `count` is how many.
abbrev pub rewrite_of : (old : Paging) → (page_size count nonce : ℕ) → List Change → List Operation
rewrite_of old page_size count nonce [] = []
rewrite_of old page_size count nonce (c ∷ cs) =
    heading page_size count nonce ∷ (savings old page_size nonce 0 (old_changes count (c ∷ cs)) ++ endings page_size (c ∷ cs))
