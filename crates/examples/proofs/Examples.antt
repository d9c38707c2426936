-- Every example of the table is right, by computation. Assumes nothing.
use mathlib.Core.Path.{refl}
use Rattle.automaton.specs.Rule.{target, walk, matches, overlaps, leads, used}
use Rattle.command.specs.Commands.{placed, operands_of, decode, retired, command_at}
use Rattle.book.specs.Draft.{check, move, apply}
use Rattle.reader.specs.Reading.{read_from, read_by}
use Rattle.longest_match.specs.Lexer.{first_match, choose_within, choose, lex_for, lex, extends}
use Rattle.record.specs.Records.{records_at}
use Rattle.record.specs.Tokens.{record_at, records_from, records_of, tokens_in}
use Rattle.lexer.specs.Outcome.{lex_rules, lex_outcome}
use Rattle.token_list.specs.Faults.{alone_in, fault_of}
use Rattle.token_list.specs.Checks.{refuse, refuse_by, first_fault, first_extended}
use Rattle.printer.specs.Outcome.{print_outcome}
use Rattle.byte_set.specs.Lowest.{lowest_from}
use Rattle.shared_bytes.specs.Bytes.{used_by_kind, shared, shared_byte}
use Rattle.shared_bytes.specs.Kinds.{separates}
use Rattle.spacing.specs.Separators.{meaning, follows, separated}
use Rattle.separated.specs.Refusals.{or_else, separator_fault, plain_fault, sharing, list_refusal, separated_refusal}
use Rattle.separated.specs.Outcome.{separated_rules, separated_outcome}
use Rattle.listing.specs.Decimal.{decimal_for, decimal, last_two}
use Rattle.listing.specs.Lines.{token_line, record_line, rest_line, refused_line, record_lines, listing}
use Rattle.examples.specs.Table.{table, Examples}
use Rattle.output.specs.Outcome as outcome
use Rattle.printer.specs.Outcome as print

pub examples : Examples
unfolding table target walk matches overlaps placed operands_of decode retired command_at check move apply read_from read_by
    first_match choose_within choose lex_for lex records_at lex_rules lex_outcome
    decimal_for decimal last_two token_line rest_line refused_line record_line record_lines listing
    extends record_at records_from records_of tokens_in alone_in fault_of refuse refuse_by first_fault first_extended
    outcome.refused_if outcome.unless outcome.written_up_to print.print_checked print.print_rules print_outcome
    leads used used_by_kind shared lowest_from shared_byte separates meaning follows separated
    or_else separator_fault plain_fault sharing list_refusal separated_refusal separated_rules separated_outcome
examples = (refl, (refl, (refl, (refl, (refl, (refl, (refl, (refl, (refl, (refl, (refl, (refl, (refl, (refl, (refl, tt)))))))))))))))
