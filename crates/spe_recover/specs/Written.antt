-- Writing all back.
use Rattle.std.specs.Prelude.{◌≡◌, ℕ, ◌*◌, nat_le, is_some, List, ◌++◌, length, Option, Some, None}
use Rattle.std.specs.List.{find}
use Rattle.std.specs.Ordering.{nat_cmp}
use Rattle.std.specs.BTreeMap.{get}
use Rattle.spe_model.specs.declared.file.FileNo.TheVariants.{Database}
use Rattle.spe_model.specs.Content.{Content, bytes_of}
use Rattle.spe_model.specs.Recovery.{is_of, all_hot, file_page_size}
use Rattle.spe_model.specs.Trace.{Operation, History, present}
use Rattle.spe_disk.specs.Told.{Adds}
use Rattle.spe_recover.specs.declared.survey.Survey.{Survey}
use Rattle.spe_recover.specs.Restored.{Holders}
use Rattle.spe_model.specs.Rollback.{restores, file_cut, cuts_from}

-- what writing back rests on
pub record IsReady (survey : Survey) (holders : Holders) (content : Content) : Type 0 where
  pub paged : survey.page_size ≡ file_page_size content
  pub size : survey.size ≡ length (bytes_of content Database)
  pub held : (p : ℕ) → is_some (get nat_cmp holders p) ≡ is_some (find (is_of p) (all_hot content))

-- the operations where some journal has bytes
abbrev pub all_of : Content → ℕ → List Operation
all_of content pages =
    restores (file_page_size content) (λ p. nat_le p pages) (all_hot content)
    ++ file_cut (length (bytes_of content Database)) (pages * file_page_size content) ++ cuts_from content 0 16

-- the operations were added to the trace, and there were so many
pub record IsMade (old new : Option History) (ops : List Operation) (made : ℕ) : Type 0 where
  pub adds : Adds old new ops
  pub count : made ≡ length ops

-- the same of operations that the content before asks for; a disk that did not tell its files does not tell them then
abbrev pub MakesCounted : Option History → Option History → (Content → List Operation) → ℕ → Type 0
MakesCounted None new ops made = new ≡ None
MakesCounted (Some h) new ops made = IsMade (Some h) new (ops (present h)) made
