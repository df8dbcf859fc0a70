-- Text that goes to a sink, and how far it came.
use Rattle.std.specs.Prelude.{◌≡◌, ℕ, ◌+◌, ◌^◌, ◌<◌, List, [], ◌++◌, Option, Some, None, Result, Ok, Err}
use Rattle.spe_disk.specs.declared.disk.Failed.{Failed}
use Rattle.spe_disk.specs.Listed.{next_number}
use Rattle.spe_disk.specs.Sink.{Appends, AppendsFront, CountsFault}

-- the sink took some bytes of the text since it had taken `start`, and the others wait
abbrev pub Waits : Option (List ℕ) → (text : List ℕ) → Option (List ℕ) → (waiting : List ℕ) → Type 0
Waits None text taken waiting = Unit {0}
Waits (Some start) text taken waiting = (more : List ℕ) × (text ≡ more ++ waiting) × (taken ≡ Some (start ++ more))

-- of the text since the sink had taken `start` it took what does not wait; after a failure it took some first bytes of it
abbrev pub Prints : Option (List ℕ) → (text : List ℕ) → Option (List ℕ) → Option (List ℕ) → Type 0
Prints start text taken (Some waiting) = Waits start text taken waiting
Prints start text taken None = AppendsFront start taken text

-- The sink's count of faults stays, but where the sink failed meanwhile: then it is the next one. Once it failed, nothing is put.
abbrev pub CountsOnce : (faults faults_now : ℕ) (printer printer_now : Option (List ℕ)) → Type 0
CountsOnce faults faults_now None printer_now = (printer_now ≡ None) × (faults_now ≡ faults)
CountsOnce faults faults_now (Some waiting) None = faults_now ≡ next_number faults
CountsOnce faults faults_now (Some waiting) (Some waits) = faults_now ≡ faults

-- A text was given to a printer, which puts it to a sink.
pub record Passes (taken now : Option (List ℕ)) (faults faults_now : ℕ) (printer printer_now : Option (List ℕ)) (text : List ℕ) : Type 0 where
  pub prints : (start : Option (List ℕ)) (before : List ℕ) → Prints start before taken printer → Prints start (before ++ text) now printer_now
  pub counts : CountsOnce faults faults_now printer printer_now

-- the sink took the whole text, or failed and took some first bytes of it
abbrev pub PrintsAll : Option (List ℕ) → (text : List ℕ) → Option (List ℕ) → Result (Unit {0}) Failed → Type 0
PrintsAll start text taken (Ok done) = Appends start taken text
PrintsAll start text taken (Err failed) = AppendsFront start taken text

-- the same at the end, where the printer says whether the sink failed
abbrev pub CountsAtEnd : (faults faults_now : ℕ) (printer : Option (List ℕ)) → Result (Unit {0}) Failed → Type 0
CountsAtEnd faults faults_now None (Ok done) = ⊥
CountsAtEnd faults faults_now None (Err failed) = faults_now ≡ faults
CountsAtEnd faults faults_now (Some waiting) result = CountsFault faults faults_now result

-- All that a printer was given was put to its sink.
pub record Ends (taken now : Option (List ℕ)) (faults faults_now : ℕ) (printer : Option (List ℕ)) (result : Result (Unit {0}) Failed) : Type 0 where
  pub prints : (start : Option (List ℕ)) (text : List ℕ) → Prints start text taken printer → PrintsAll start text now result
  pub counts : CountsAtEnd faults faults_now printer result

-- a text was given to a printer, which put nothing to its sink
abbrev pub KeepsText : (printer printer_now : Option (List ℕ)) (text : List ℕ) → Type 0
KeepsText printer now text = (taken : Option (List ℕ)) → (faults : ℕ) → Passes taken taken faults faults printer now text

-- no text waits
abbrev pub HasNone : (printer : Option (List ℕ)) → Type 0
HasNone None = Unit {0}
HasNone (Some waiting) = waiting ≡ []

-- a front of a text was given, and the rest is not yet
pub record PassesFront (taken now : Option (List ℕ)) (faults faults_now : ℕ) (printer printer_now : Option (List ℕ)) (text rest : List ℕ) : Type 0 where
  pub front : List ℕ
  pub whole : text ≡ front ++ rest
  pub gives : Passes taken now faults faults_now printer printer_now front

-- the same of a text of numbered parts, which ends within the numbers of 64 bits
pub record PassesNumbered (taken now : Option (List ℕ)) (faults faults_now : ℕ) (printer printer_now : Option (List ℕ)) (text rest : List ℕ) (number left : ℕ) : Type 0 where
  pub given : PassesFront taken now faults faults_now printer printer_now text rest
  pub fits : number + left < 2 ^ 64
