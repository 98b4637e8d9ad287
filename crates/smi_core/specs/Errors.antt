-- The refusals of a board, as those of steps.
use Rattle.smi_board.specs.declared.errors.StartError.{StartError}
use Rattle.smi_board.specs.declared.errors.StartError.TheVariants as start
use Rattle.smi_board.specs.declared.errors.AnswerError.{AnswerError}
use Rattle.smi_board.specs.declared.errors.AnswerError.TheVariants as device
use Rattle.smi_board.specs.declared.errors.KillError.{KillError}
use Rattle.smi_board.specs.declared.errors.KillError.TheVariants as kill
use Rattle.smi_board.specs.declared.errors.RequestRefusal.{RequestRefusal}
use Rattle.smi_board.specs.declared.errors.RequestRefusal.TheVariants as request
use Rattle.smi_world.specs.declared.refusal.StepError.{StepError}
use Rattle.smi_world.specs.declared.refusal.StepError.TheVariants as error

-- why nothing was started
abbrev pub start_error : StartError → StepError
start_error start.Memory = error.Memory
start_error start.Limit = error.Limit
start_error start.Dead = error.Dead
start_error start.AlreadyOpen = error.AlreadyOpen
start_error start.Empty = error.Empty

-- why a device's answer or fault was not taken
abbrev pub device_error : AnswerError → StepError
device_error device.NotAssociated = error.NotAssociated
device_error device.NotOpen = error.NotOpen
device_error device.NotAState = error.NotAState

-- why an object was not killed
abbrev pub kill_error : KillError → StepError
kill_error kill.Memory = error.Memory
kill_error (kill.AlreadyDead p) = error.AlreadyDead p

-- why a request was not taken
abbrev pub request_error : RequestRefusal → StepError
request_error request.Memory = error.Memory
request_error request.Dead = error.Dead
request_error request.Full = error.Full
