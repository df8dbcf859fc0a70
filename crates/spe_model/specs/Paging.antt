-- Pages by number, the first of which is 1, and pages that some call gave or put.
use Rattle.std.specs.Prelude.{◌≡◌, ℕ, ◌≤◌, List, Option, All, unwrap_or, IsTrue}
use Rattle.spe_model.specs.Header.{is_page_size}

-- the bytes of each page
abbrev pub Paging : Type 0
Paging = ℕ → List ℕ

-- the bytes of some pages
abbrev pub PageMap : Type 0
PageMap = ℕ → Option (List ℕ)

-- the bytes of some pages, each as often as it was given
abbrev pub Given : Type 0
Given = ℕ → List (List ℕ)

-- each page was given as it is in `pages`; where one was given with different bytes, no pages agree
pub record Agrees (pages : Paging) (seen : Given) : Type 0 where
  pub each : (n : ℕ) → All (λ bytes. pages n ≡ bytes) (seen n)

-- `pages` with `laid` laid over them
abbrev pub lay : PageMap → Paging → Paging
lay laid pages n = unwrap_or (laid n) (pages n)

-- a power of two from 512 to 65536
abbrev pub IsPageSize : ℕ → Type 0
IsPageSize size = IsTrue (is_page_size size) × (512 ≤ size) × (size ≤ 65536)

-- how many bytes of each page the format uses: the reserved bytes at its end are not among them
abbrev pub IsUsableSize : ℕ → ℕ → Type 0
IsUsableSize size usable = (480 ≤ usable) × (usable ≤ size)
