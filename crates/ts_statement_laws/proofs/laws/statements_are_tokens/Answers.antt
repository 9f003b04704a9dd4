use Rattle.ts_statement_laws.proofs.StatementLemmas.{statements_tokens}
use Rattle.ts_statement_laws.proofs.laws.statements_are_tokens.Goals as goal

pub returns : goal.returns
returns c = statements_tokens
