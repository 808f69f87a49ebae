-- The constant is the words of the listed names: antt computes them and compares.
use Rattle.std.proofs.Common.{refl}
use Rattle.text.specs.Text.{same, ends}
use Rattle.names.specs.Listed.{listed, exceptions, imprecise}
use Rattle.names.specs.Lookup.{seek, lookup, licence_texts, imprecise_texts, licence_of, bytes_at, licence_name, deprecated_of, gnu_of, is_later, is_bare, stem, later_of, only_of, stands_for}
use Rattle.names.specs.Layout.{distance, mark_of, marked, placed, stood_for, rows, directory, bodies, table_of, value, pack, words}
use Rattle.names.proofs.table.table.Goals as goal

pub returns : goal.returns
unfolding same ends listed exceptions imprecise seek lookup licence_texts imprecise_texts licence_of bytes_at licence_name deprecated_of gnu_of is_later is_bare stem later_of only_of stands_for distance mark_of marked placed stood_for rows directory bodies table_of value pack words
returns c = refl
