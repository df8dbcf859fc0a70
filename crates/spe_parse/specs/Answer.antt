-- What is answered of what is found.
use Rattle.std.specs.Prelude.{ℕ, Option, Result}
use Rattle.spe_model.specs.declared.statement.Statement.{Statement}
use Rattle.spe_model.specs.declared.token.SqlFault.{SqlFault}
use Rattle.spe_parse.specs.declared.halt.Halt.{Halt}
use Rattle.spe_lex.specs.Reading.{IsReading}
use Rattle.spe_parse.specs.Read.{IsPart}
use Rattle.spe_parse.specs.Grammar.{answer_of}

abbrev pub as_found : Statement → Statement
as_found statement = statement

-- the answer is right for whatever reading gives what is found, in a text of this size
abbrev pub IsAnswerTo : ℕ → Option ℕ → Result Statement Halt → Result Statement SqlFault → Type 0
IsAnswerTo size unread found answer = (reading : Result Statement Halt) → IsPart as_found found reading → IsReading as_found answer (answer_of size unread reading)
