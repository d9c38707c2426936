-- The number of each reason, under which C knows it.
use Rattle.std.specs.Prelude.{ℕ, eqb, if◌then◌else◌}
use Rattle.std.proofs.Math.Option.{Option, none, some}
use Rattle.answer.specs.declared.Reason.{Reason}
use Rattle.answer.specs.declared.Reason.TheVariants as reason

abbrev pub number_of : Reason → ℕ
number_of reason.BookTooLong = 1
number_of reason.CutOff = 2
number_of reason.Misplaced = 3
number_of reason.BytesAfterEnd = 4
number_of reason.TooMany = 5
number_of reason.OutOfRange = 6
number_of reason.TagTaken = 7
number_of reason.TwiceOrMissing = 8
number_of reason.Overlap = 9
number_of reason.LeavesError = 10
number_of reason.ErrorFinal = 11
number_of reason.StartFinal = 12
number_of reason.NoRule = 13
number_of reason.TextTooLong = 14
number_of reason.TooFewRecords = 15
number_of reason.TooManyTokens = 16
number_of reason.PastThePool = 17
number_of reason.UnknownTag = 18
number_of reason.NotAlone = 19
number_of reason.OutputTooLong = 20
number_of reason.ReadOn = 21
number_of reason.OutputTooShort = 22
number_of reason.SharedByte = 23
number_of reason.UnknownMode = 24
number_of reason.NoSeparator = 25
number_of reason.SeparatorInList = 26
number_of reason.PastTheText = 27
number_of reason.NoExpression = 30
number_of reason.LargeExpression = 31
number_of reason.TooManySets = 32
number_of reason.Retired = 33

-- the reason of a number; none of one that no refusal has
abbrev pub reason_of : ℕ → Option Reason
reason_of n =
    if eqb n 1 then some reason.BookTooLong else
    if eqb n 2 then some reason.CutOff else
    if eqb n 3 then some reason.Misplaced else
    if eqb n 4 then some reason.BytesAfterEnd else
    if eqb n 5 then some reason.TooMany else
    if eqb n 6 then some reason.OutOfRange else
    if eqb n 7 then some reason.TagTaken else
    if eqb n 8 then some reason.TwiceOrMissing else
    if eqb n 9 then some reason.Overlap else
    if eqb n 10 then some reason.LeavesError else
    if eqb n 11 then some reason.ErrorFinal else
    if eqb n 12 then some reason.StartFinal else
    if eqb n 13 then some reason.NoRule else
    if eqb n 14 then some reason.TextTooLong else
    if eqb n 15 then some reason.TooFewRecords else
    if eqb n 16 then some reason.TooManyTokens else
    if eqb n 17 then some reason.PastThePool else
    if eqb n 18 then some reason.UnknownTag else
    if eqb n 19 then some reason.NotAlone else
    if eqb n 20 then some reason.OutputTooLong else
    if eqb n 21 then some reason.ReadOn else
    if eqb n 22 then some reason.OutputTooShort else
    if eqb n 23 then some reason.SharedByte else
    if eqb n 24 then some reason.UnknownMode else
    if eqb n 25 then some reason.NoSeparator else
    if eqb n 26 then some reason.SeparatorInList else
    if eqb n 27 then some reason.PastTheText else
    if eqb n 30 then some reason.NoExpression else
    if eqb n 31 then some reason.LargeExpression else
    if eqb n 32 then some reason.TooManySets else
    if eqb n 33 then some reason.Retired else
    none
