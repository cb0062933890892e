-- The number and the layer of each refusal, and the slot that it names.
use Rattle.std.specs.Prelude.{ℕ, None, Option}
use Rattle.faults.specs.declared.layer.Layer.{Layer}
use Rattle.faults.specs.declared.layer.Layer.TheVariants as layers
use Rattle.faults.specs.declared.value.ValueFault.{ValueFault}
use Rattle.faults.specs.declared.value.ValueFault.TheVariants.{OutOfRange, NotSixteenths}
use Rattle.faults.specs.declared.sheet.SheetReason.{SheetReason}
use Rattle.faults.specs.declared.sheet.SheetReason.TheVariants.{NoSlot, SlotFull, SlotEmpty, PlateLimits, RoleStands, TooStrong, Value, TooLow}
use Rattle.faults.specs.declared.sheet.SheetFault.{SheetFault}
use Rattle.faults.specs.declared.part.PartFault.{PartFault}
use Rattle.faults.specs.declared.part.PartFault.TheVariants.{OutsideLimits}
use Rattle.faults.specs.declared.question.QuestionFault.{QuestionFault}
use Rattle.faults.specs.declared.question.QuestionFault.TheVariants.{NoMoment, PlateMissing, SpacingLimits, StudLimits, UnlawfulFactors, UnknownState}
use Rattle.faults.specs.declared.reading.ReadFault.{ReadFault}
use Rattle.faults.specs.declared.reading.ReadFault.TheVariants.{UnknownCommand, CutShort, ShortBuffer, UnknownCode, TooLong}
use Rattle.faults.specs.declared.recorded.RecordFault.{RecordFault}
use Rattle.faults.specs.declared.recorded.RecordFault.TheVariants.{Sheet, Part, Question, Reading}

-- a value that is no number or beyond 131,072 in magnitude; one that is no multiple of 1/16
abbrev pub value_number : ValueFault → ℕ
value_number OutOfRange = 7
value_number NotSixteenths = 8

-- a slot past the last; a full one to fill; an empty one to empty; a plate outside its limits; a role that stands already; plates that would pass 2 ^ 36; a value's own fault; a lowered plate that would pass 4,096
abbrev pub reason_number : SheetReason → ℕ
reason_number NoSlot = 1
reason_number SlotFull = 2
reason_number SlotEmpty = 3
reason_number PlateLimits = 4
reason_number RoleStands = 5
reason_number TooStrong = 6
reason_number (Value v) = value_number v
reason_number TooLow = 9

abbrev pub reason_layer : SheetReason → Layer
reason_layer NoSlot = layers.Sheet
reason_layer SlotFull = layers.Sheet
reason_layer SlotEmpty = layers.Sheet
reason_layer PlateLimits = layers.Sheet
reason_layer RoleStands = layers.Sheet
reason_layer TooStrong = layers.Sheet
reason_layer (Value v) = layers.Value
reason_layer TooLow = layers.Sheet

abbrev pub sheet_number : SheetFault → ℕ
sheet_number f = reason_number f.reason

abbrev pub sheet_layer : SheetFault → Layer
sheet_layer f = reason_layer f.reason

-- a deck or a shape outside its limits, with too many layers or too strong
abbrev pub part_number : PartFault → ℕ
part_number OutsideLimits = 10

-- a smallest plastic moment of 0; a flange or web that is missing; a spacing or a stud outside its limits; factors that are no ranges within 0 to 1,000; a published state's number that is not 1 to 9
abbrev pub question_number : QuestionFault → ℕ
question_number NoMoment = 11
question_number PlateMissing = 12
question_number SpacingLimits = 13
question_number StudLimits = 14
question_number UnlawfulFactors = 15
question_number UnknownState = 15

-- an unknown command byte; a command cut short or a place past the end; a line buffer under 64 bytes; an unknown type or effect code; a record over 65,536 bytes
abbrev pub read_number : ReadFault → ℕ
read_number UnknownCommand = 16
read_number CutShort = 17
read_number ShortBuffer = 18
read_number UnknownCode = 19
read_number TooLong = 20

abbrev pub number : RecordFault → ℕ
number (Sheet f) = sheet_number f
number (Part f) = part_number f
number (Question f) = question_number f
number (Reading f) = read_number f

abbrev pub layer : RecordFault → Layer
layer (Sheet f) = sheet_layer f
layer (Part f) = layers.Part
layer (Question f) = layers.Question
layer (Reading f) = layers.Record

-- the slot of the call that was refused, where it names one
abbrev pub slot : RecordFault → Option ℕ
slot (Sheet f) = f.slot
slot (Part f) = None
slot (Question f) = None
slot (Reading f) = None
