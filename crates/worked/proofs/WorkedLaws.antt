-- What specs/Worked asks is answered as its table says: computed, under one claim.
use Rattle.std.specs.Prelude.{◌≡◌, refl, map}
use Rattle.text.specs.Text.{begins, same, ends, within, part}
use Rattle.text.specs.Overlay.{overlay}
use Rattle.text.specs.Walk.{over, reach, one}
use Rattle.text.specs.First.{first}
use Rattle.text.specs.Runs.{ref_byte, run_byte}
use Rattle.utf8.specs.Utf8.{lowest, highest, two, three, four, decoded, front, char_width, first_ill, white_of, white_width, past_white}
use Rattle.names.specs.Listed.{listed, exceptions, imprecise}
use Rattle.names.specs.Lookup.{seek, lookup, licence_texts, imprecise_texts, licence_of, exception_of, bytes_at, licence_name, exception_name, deprecated_of, gnu_of, is_later, is_bare, stem, later_of, stands_for, longest, imprecise_of}
use Rattle.lexer.specs.Lex.{run_end, ref_end, operator_of, ref_of, documented, imprecise_at, unknown_of, word_of, run_of, mark_of, scan_of, check_of}
use Rattle.lexer.specs.Tokens.{walked, tokens_of}
use Rattle.grammar.specs.Leaves.{name_start, gnu_move, plus_move, move_of, tail_of}
use Rattle.grammar.specs.Grammar.{and_level, parse_of}
use Rattle.canonical.specs.Canonical.{alone, plussed, canon_from, canonical_of, answer_of, buffer_of}
use Rattle.licensee.specs.Offers.{name_in, body_of, at16, offset, size, placed, offer_of, entries_from, contents, list_of}
use Rattle.licensee.specs.Satisfies.{same_range, satisfies, equals}
use Rattle.masks.specs.Masks as Masks
use Rattle.masks.specs.Masks.{has, spare, minimal, examined, stopped, searched, settled, chosen}
use Rattle.std.specs.List.{list_any}
use Rattle.minimize.specs.Minimize.{found_after, member, tree_of, wanted, found_of, satisfied, limited, problem_of, choice_of, listing_of}
use Rattle.worked.specs.Worked.{Question, Reply, name_of, added_of, shown, of_result, of_answer, of_choice, of_listing, lent, answer, lic, at, six, either_way, doc, bodies, table}

worked : map (λ (w : Question × Reply). answer w.0) table ≡ map (λ (w : Question × Reply). w.1) table
unfolding
    table answer of_result of_answer of_choice of_listing shown added_of name_of lent lic at six either_way doc bodies within lowest highest two three
    four decoded front char_width first_ill white_of white_width past_white over reach one first begins same ends part overlay ref_byte run_byte seek
    lookup licence_texts imprecise_texts licence_of exception_of bytes_at licence_name exception_name deprecated_of gnu_of is_later is_bare stem later_of
    stands_for longest imprecise_of listed exceptions imprecise run_end ref_end operator_of ref_of documented imprecise_at unknown_of word_of run_of
    mark_of scan_of check_of walked tokens_of name_start gnu_move plus_move move_of tail_of and_level parse_of alone plussed canon_from canonical_of answer_of
    buffer_of name_in body_of at16 offset size placed offer_of entries_from contents list_of same_range satisfies equals has spare minimal examined
    stopped searched settled chosen Masks.listed found_after member tree_of wanted found_of satisfied limited problem_of choice_of listing_of
worked = refl
