-- `reader::read_case` meets its contract: the text is read by the rules of the edition that is told of it. Assumes nothing.
use Rattle.network.specs.Columns.{network_lent, branch_table_lent}
use Rattle.reader.specs.Reader.{Columns, columns_of}
use Rattle.reader.specs.Reader.Laws.{read-as-first, read-as-second}
use Rattle.reader.proofs.read_case.Goals as goal
use Rattle.reader.proofs.read_case.Goals.{Start}

-- the columns as they are passed
abbrev old : Start → Columns
old x = let a = x.args in columns_of (network_lent a.sources.now a.lines.now) (branch_table_lent a.table.now)

pub returns-in-First-clause-read : goal.returns-in-First-clause-read
returns-in-First-clause-read c =
    read-as-first _ (old (goal.at.returns-in-First-clause-read c).Start) _ c.edition_of.ensures c.in-First.is c.read_triplets.result _ c.read_triplets.ensures.read

pub returns-in-Second-clause-read : goal.returns-in-Second-clause-read
returns-in-Second-clause-read c =
    read-as-second _ (old (goal.at.returns-in-Second-clause-read c).Start) _ c.edition_of.ensures c.in-Second.is c.read_branches.result _ c.read_branches.ensures.read
