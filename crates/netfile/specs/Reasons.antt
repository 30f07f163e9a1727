-- The number that each reason is known by.
use Rattle.std.specs.Prelude.{ℕ}
use Rattle.sweeps.specs.Refusals.{number}
use Rattle.netfile.specs.declared.reason.Reason.{Reason}
use Rattle.netfile.specs.declared.reason.Reason.TheVariants.{Arc, CutShort, BadMark, BadField, Trailing, TooManyNodes, TooManyBytes}

-- that of the put for an arc
abbrev pub reason_number : Reason → ℕ
reason_number (Arc why) = number why
reason_number CutShort = 15
reason_number BadMark = 16
reason_number BadField = 17
reason_number Trailing = 18
reason_number TooManyNodes = 19
reason_number TooManyBytes = 20
