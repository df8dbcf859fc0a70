-- What some tokens begin with.
use Rattle.std.specs.Prelude.{◌≡◌, [], Some, None}
use Rattle.spe_lex.specs.declared.next.Next.{Next}
use Rattle.spe_lex.specs.declared.next.Next.TheVariants.{Token, Fault, End}
use Rattle.spe_lex.specs.Front.{Front, led_by}

-- this stands before these others, or they are read up to their fault or their end, and stay as they are
abbrev pub Begins : Next → Front → Front → Type 0
Begins (Token x) before after = before ≡ led_by x after
Begins (Fault at) before after = (before ≡ ([], Some at)) × (after ≡ before)
Begins End before after = (before ≡ ([], None)) × (after ≡ before)
