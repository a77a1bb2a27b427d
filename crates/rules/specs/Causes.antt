-- Each cause of a refusal, with its number and its status.
use Rattle.std.specs.Prelude.{ℕ, Some, None, Option, Result}
use Rattle.rules.specs.declared.cause.Asked.{Asked}
use Rattle.rules.specs.declared.cause.Asked.TheVariants.{Method, Command}
use Rattle.rules.specs.declared.cause.Cause.{Cause}
use Rattle.rules.specs.declared.cause.Cause.TheVariants.{CallerNotAllowed, NoSuchRow, RowFree, WrongKind, NoSuchUnit, UnitExists, BadSize, PastUnit, SharesBlock, FirstNotWhole, NoFreeRow, NoUnusedKey, SerialsRunOut, Locked, SingleUserInTheWay, KeepOnRange, RangeRowsRemain, HasUnitRow, SixteenUnits, OutOfBounds, LockEnabled, BlockOutOfRange, BlockLocked, BufferShort, SheetHeader, SheetField, SheetRelation, OtherKeys, Closed}
use Rattle.rules.specs.declared.cause.Status.{Status}
use Rattle.rules.specs.declared.cause.Status.TheVariants.{NotAuthorized, InvalidParameter, InsufficientRows, Fail, OperationDenied, InvalidNamespaceOrFormat, LbaOutOfRange, AccessDenied}

-- what is answered where there is nothing to tell but that it is done
abbrev pub Done : Type 0
Done = Result (Unit {0}) Cause

-- ---- the number and the status of each
abbrev pub number : Cause → ℕ
number CallerNotAllowed = 1
number NoSuchRow = 2
number RowFree = 3
number WrongKind = 4
number NoSuchUnit = 5
number UnitExists = 6
number BadSize = 7
number PastUnit = 8
number SharesBlock = 9
number FirstNotWhole = 10
number NoFreeRow = 11
number NoUnusedKey = 12
number SerialsRunOut = 13
number Locked = 14
number SingleUserInTheWay = 15
number KeepOnRange = 16
number RangeRowsRemain = 17
number HasUnitRow = 18
number SixteenUnits = 19
number OutOfBounds = 20
number LockEnabled = 21
number BlockOutOfRange = 22
number (BlockLocked block row) = 23
number (BufferShort needed) = 24
number SheetHeader = 25
number SheetField = 26
number SheetRelation = 27
number OtherKeys = 28
number Closed = 29

-- one status from a method, another from a command or a question
abbrev pub by_way : Asked → Status → Status → Option Status
by_way Method method command = Some method
by_way Command method command = Some command

abbrev pub status : Asked → Cause → Option Status
status asked CallerNotAllowed = Some NotAuthorized
status asked NoSuchRow = Some InvalidParameter
status asked RowFree = Some InvalidParameter
status asked WrongKind = Some InvalidParameter
status asked NoSuchUnit = by_way asked InvalidParameter InvalidNamespaceOrFormat
status asked UnitExists = Some OperationDenied
status asked BadSize = Some OperationDenied
status asked PastUnit = Some InvalidParameter
status asked SharesBlock = Some InvalidParameter
status asked FirstNotWhole = Some InvalidParameter
status asked NoFreeRow = Some InsufficientRows
status asked NoUnusedKey = by_way asked Fail OperationDenied
status asked SerialsRunOut = by_way asked Fail OperationDenied
status asked Locked = by_way asked Fail OperationDenied
status asked SingleUserInTheWay = Some InvalidParameter
status asked KeepOnRange = Some InvalidParameter
status asked RangeRowsRemain = Some InvalidParameter
status asked HasUnitRow = Some OperationDenied
status asked SixteenUnits = Some OperationDenied
status asked OutOfBounds = Some InvalidParameter
status asked LockEnabled = Some Fail
status asked BlockOutOfRange = Some LbaOutOfRange
status asked (BlockLocked block row) = Some AccessDenied
status asked (BufferShort needed) = None
status asked SheetHeader = None
status asked SheetField = None
status asked SheetRelation = None
status asked OtherKeys = None
status asked Closed = None
