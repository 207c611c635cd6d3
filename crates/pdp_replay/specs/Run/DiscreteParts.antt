-- Deciding whether two parts of machines are equal, and two events.
use Rattle.std.specs.Prelude.{true, false, [], ◌∷◌, get_or, refl}
use Rattle.pdp_word.specs.declared.codes.Codes.{Codes}
use Rattle.pdp_kt11.specs.Handbook.Apr.{access_bits, access_control_of, expansion_of, numbered_page}
use Rattle.pdp_kt11.specs.Handbook.Apr.{page_number}
use Rattle.pdp_kt11.specs.Handbook.Mode.{mode_bits, mode_of}
use Rattle.pdp_kt11.specs.declared.apr.AccessControl.{AccessControl}
use Rattle.pdp_kt11.specs.declared.apr.AccessControl.TheVariants.{NonResident}
use Rattle.pdp_kt11.specs.declared.apr.Apr.{Apr}
use Rattle.pdp_kt11.specs.declared.apr.Expansion.{Expansion}
use Rattle.pdp_kt11.specs.declared.apr.Expansion.TheVariants.{Upward, Downward}
use Rattle.pdp_kt11.specs.declared.apr.PageNumber.{PageNumber}
use Rattle.pdp_kt11.specs.declared.apr.PageNumber.TheVariants.{P0}
use Rattle.pdp_kt11.specs.declared.mode.Mode.{Mode}
use Rattle.pdp_kt11.specs.declared.mode.Mode.TheVariants.{Kernel}
use Rattle.pdp_kt11.specs.declared.registers.MappingRegisters.{MappingRegisters}
use Rattle.pdp_kt11.specs.declared.status.MappingStatus.{MappingStatus}
use Rattle.pdp_device.specs.declared.operation.Operation.{Operation}
use Rattle.pdp_device.specs.declared.operation.Operation.TheVariants.{Idle, ByEvent, At}
use Rattle.pdp_device.specs.declared.ready_enable.ReadyEnable.{ReadyEnable}
use Rattle.pdp_device.specs.declared.transmitter.Transmitter.{Transmitter}
use Rattle.pdp_console.specs.declared.keyboard.Keyboard.{Keyboard}
use Rattle.pdp_console.specs.declared.kl.Kl.{Kl}
use Rattle.pdp_console.specs.declared.kw.Kw.{Kw}
use Rattle.pdp_tape.specs.declared.pc11.Pc11.{Pc11}
use Rattle.pdp_tape.specs.declared.reader.Reader.{Reader}
use Rattle.pdp_rk11.specs.Handbook.Rk.{code_of, function_of}
use Rattle.pdp_rk11.specs.declared.failure.Failure.{Failure}
use Rattle.pdp_rk11.specs.declared.failure.Failure.TheVariants.{NoSector, NoCylinder, NoDrive}
use Rattle.pdp_rk11.specs.declared.failure.Failure.TheVariants.{NoMemory, WriteLocked, Overrun}
use Rattle.pdp_rk11.specs.declared.function.Function.{Function}
use Rattle.pdp_rk11.specs.declared.function.Function.TheVariants.{ControlReset}
use Rattle.pdp_rk11.specs.declared.rk.Rk.{Rk}
use Rattle.pdp_io_page.specs.Handbook.Status.{priority_bits, priority_of}
use Rattle.pdp_io_page.specs.declared.delays.Delays.{Delays}
use Rattle.pdp_unibus.specs.declared.event.Event.{Event}
use Rattle.pdp_unibus.specs.declared.event.Event.TheVariants.{Key, Tick, PrinterDone, ReaderDone}
use Rattle.pdp_unibus.specs.declared.event.Event.TheVariants.{PunchDone, DiskDone, Switches}
use Rattle.pdp_unibus.specs.declared.event.Event.TheVariants.{Continue}
use Rattle.pdp_io_page.specs.declared.io_page.IoPage.{IoPage}
use Rattle.pdp_io_page.specs.declared.priority.Priority.{Priority}
use Rattle.pdp_io_page.specs.declared.priority.Priority.TheVariants.{Level0}
use Rattle.pdp_io_page.specs.declared.status.Status.{Status}
use Rattle.pdp_operand.specs.declared.processor.Processor.{Processor}
use Rattle.pdp_operand.specs.declared.processor.RunState.{RunState}
use Rattle.pdp_operand.specs.declared.processor.RunState.TheVariants.{Run, Wait, Halted}
use Rattle.pdp_replay.specs.Run.Discrete.{◌>>=◌, discrete_by, flags, lists_of, numbers}
use Rattle.pdp_replay.specs.Run.Discrete.{options_of, pairs_of, same_field}

-- the pages of memory management, and all its registers
unfoldable pub modes : Discrete Mode
unfolding mode_of
modes =
    discrete_by mode_bits mode_of (elim [ Kernel ↦ refl | _ ↦ refl ]) numbers

unfoldable pub page_numbers : Discrete PageNumber
unfolding numbered_page
page_numbers =
    discrete_by page_number numbered_page (elim [ P0 ↦ refl | _ ↦ refl ]) numbers

unfoldable pub access_controls : Discrete AccessControl
unfolding access_control_of
access_controls =
    discrete_by access_bits access_control_of
    (elim [ NonResident ↦ refl | _ ↦ refl ]) numbers

unfoldable pub expansions : Discrete Expansion
expansions =
    discrete_by (elim [ Upward ↦ false | Downward ↦ true ]) expansion_of
    (elim [ Upward ↦ refl | _ ↦ refl ]) flags

unfoldable pub pages : Discrete Apr
pages a b = do
  frame ← same_field (λ p. p.frame) numbers a b
  length ← same_field (λ p. p.length) numbers a b
  written ← same_field (λ p. p.written) flags a b
  expansion ← same_field (λ p. p.expansion) expansions a b
  access ← same_field (λ p. p.access) access_controls a b
  yes (λ i. record {
    frame = frame i;
    length = length i;
    written = written i;
    expansion = expansion i;
    access = access i;
  })

unfoldable pub mapping_statuses : Discrete MappingStatus
mapping_statuses a b = do
  resident_abort ← same_field (λ m. m.resident_abort) flags a b
  length_abort ← same_field (λ m. m.length_abort) flags a b
  read_only_abort ← same_field (λ m. m.read_only_abort) flags a b
  mode ← same_field (λ m. m.mode) modes a b
  page ← same_field (λ m. m.page) page_numbers a b
  enabled ← same_field (λ m. m.enabled) flags a b
  yes (λ i. record {
    resident_abort = resident_abort i;
    length_abort = length_abort i;
    read_only_abort = read_only_abort i;
    mode = mode i;
    page = page i;
    enabled = enabled i;
  })

unfoldable pub mappings : Discrete MappingRegisters
mappings a b = do
  status ← same_field (λ m. m.status) mapping_statuses a b
  last_fetch ← same_field (λ m. m.last_fetch) numbers a b
  kernel ← same_field (λ m. m.kernel) (lists_of pages) a b
  user ← same_field (λ m. m.user) (lists_of pages) a b
  yes (λ i. record {
    status = status i;
    last_fetch = last_fetch i;
    kernel = kernel i;
    user = user i;
  })

-- the devices
unfoldable pub operations : Discrete Operation
operations =
    discrete_by (elim [ Idle ↦ (0, 0) | ByEvent ↦ (1, 0) | At turn ↦ (2, turn) ])
    (λ (kind, turn). get_or (Idle ∷ ByEvent ∷ []) kind (At turn))
    (elim [ Idle ↦ refl | _ ↦ refl ]) (pairs_of numbers numbers)

unfoldable pub ready_enables : Discrete ReadyEnable
ready_enables a b = do
  ready ← same_field (λ r. r.ready) flags a b
  enable ← same_field (λ r. r.enable) flags a b
  request ← same_field (λ r. r.request) flags a b
  yes (λ i. record { ready = ready i; enable = enable i; request = request i })

unfoldable pub transmitters : Discrete Transmitter
transmitters a b = do
  ready_enable ← same_field (λ t. t.ready_enable) ready_enables a b
  byte ← same_field (λ t. t.byte) numbers a b
  operation ← same_field (λ t. t.operation) operations a b
  yes (λ i. record { ready_enable = ready_enable i; byte = byte i; operation = operation i })

unfoldable pub keyboards : Discrete Keyboard
keyboards a b = do
  ready_enable ← same_field (λ k. k.ready_enable) ready_enables a b
  key ← same_field (λ k. k.key) numbers a b
  yes (λ i. record { ready_enable = ready_enable i; key = key i })

unfoldable pub consoles : Discrete Kl
consoles a b = do
  keyboard ← same_field (λ k. k.keyboard) keyboards a b
  printer ← same_field (λ k. k.printer) transmitters a b
  yes (λ i. record { keyboard = keyboard i; printer = printer i })

unfoldable pub clocks : Discrete Kw
clocks a b = do
  monitor ← same_field (λ k. k.monitor) flags a b
  enable ← same_field (λ k. k.enable) flags a b
  request ← same_field (λ k. k.request) flags a b
  yes (λ i. record { monitor = monitor i; enable = enable i; request = request i })

unfoldable pub readers : Discrete Reader
readers a b = do
  error ← same_field (λ r. r.error) flags a b
  done ← same_field (λ r. r.done) flags a b
  enable ← same_field (λ r. r.enable) flags a b
  request ← same_field (λ r. r.request) flags a b
  byte ← same_field (λ r. r.byte) numbers a b
  operation ← same_field (λ r. r.operation) operations a b
  yes (λ i. record {
    error = error i;
    done = done i;
    enable = enable i;
    request = request i;
    byte = byte i;
    operation = operation i;
  })

unfoldable pub paper_tapes : Discrete Pc11
paper_tapes a b = do
  reader ← same_field (λ p. p.reader) readers a b
  punch ← same_field (λ p. p.punch) transmitters a b
  yes (λ i. record { reader = reader i; punch = punch i })

unfoldable pub functions : Discrete Function
functions =
    discrete_by code_of function_of (elim [ ControlReset ↦ refl | _ ↦ refl ]) numbers

unfoldable pub failures : Discrete Failure
failures =
    discrete_by
    (elim [
      | NoSector ↦ 0
      | NoCylinder ↦ 1
      | NoDrive ↦ 2
      | NoMemory ↦ 3
      | WriteLocked ↦ 4
      | Overrun ↦ 5
    ])
    (λ n. get_or (NoSector ∷ NoCylinder ∷ NoDrive ∷ NoMemory ∷ WriteLocked ∷ []) n Overrun)
    (elim [ NoSector ↦ refl | _ ↦ refl ]) numbers

unfoldable pub disks : Discrete Rk
disks a b = do
  ready_enable ← same_field (λ r. r.ready_enable) ready_enables a b
  function ← same_field (λ r. r.function) functions a b
  no_increment ← same_field (λ r. r.no_increment) flags a b
  search_complete ← same_field (λ r. r.search_complete) flags a b
  write_check ← same_field (λ r. r.write_check) flags a b
  failure ← same_field (λ r. r.failure) (options_of failures) a b
  word_count ← same_field (λ r. r.word_count) numbers a b
  address ← same_field (λ r. r.address) numbers a b
  disk_address ← same_field (λ r. r.disk_address) numbers a b
  locked ← same_field (λ r. r.locked) (lists_of flags) a b
  operation ← same_field (λ r. r.operation) operations a b
  yes (λ i. record {
    ready_enable = ready_enable i;
    function = function i;
    no_increment = no_increment i;
    search_complete = search_complete i;
    write_check = write_check i;
    failure = failure i;
    word_count = word_count i;
    address = address i;
    disk_address = disk_address i;
    locked = locked i;
    operation = operation i;
  })

-- the program status word
unfoldable pub priorities : Discrete Priority
unfolding priority_of
priorities =
    discrete_by priority_bits priority_of (elim [ Level0 ↦ refl | _ ↦ refl ]) numbers

unfoldable pub condition_codes : Discrete Codes
condition_codes a b = do
  n ← same_field (λ c. c.n) flags a b
  z ← same_field (λ c. c.z) flags a b
  v ← same_field (λ c. c.v) flags a b
  c ← same_field (λ c. c.c) flags a b
  yes (λ i. record { n = n i; z = z i; v = v i; c = c i })

unfoldable pub statuses : Discrete Status
statuses a b = do
  mode ← same_field (λ s. s.mode) modes a b
  previous ← same_field (λ s. s.previous) modes a b
  priority ← same_field (λ s. s.priority) priorities a b
  trace_bit ← same_field (λ s. s.trace_bit) flags a b
  codes ← same_field (λ s. s.codes) condition_codes a b
  yes (λ i. record {
    mode = mode i;
    previous = previous i;
    priority = priority i;
    trace_bit = trace_bit i;
    codes = codes i;
  })

-- the whole I/O page
unfoldable pub delays_of_devices : Discrete Delays
delays_of_devices a b = do
  printer ← same_field (λ d. d.printer) numbers a b
  reader ← same_field (λ d. d.reader) numbers a b
  punch ← same_field (λ d. d.punch) numbers a b
  disk ← same_field (λ d. d.disk) numbers a b
  clock ← same_field (λ d. d.clock) numbers a b
  yes (λ i. record {
    printer = printer i;
    reader = reader i;
    punch = punch i;
    disk = disk i;
    clock = clock i;
  })

unfoldable pub io_pages : Discrete IoPage
io_pages a b = do
  status ← same_field (λ p. p.status) statuses a b
  mapping ← same_field (λ p. p.mapping) mappings a b
  console ← same_field (λ p. p.console) consoles a b
  clock ← same_field (λ p. p.clock) clocks a b
  paper_tape ← same_field (λ p. p.paper_tape) paper_tapes a b
  disk ← same_field (λ p. p.disk) disks a b
  delays ← same_field (λ p. p.delays) delays_of_devices a b
  switches ← same_field (λ p. p.switches) numbers a b
  yes (λ i. record {
    status = status i;
    mapping = mapping i;
    console = console i;
    clock = clock i;
    paper_tape = paper_tape i;
    disk = disk i;
    delays = delays i;
    switches = switches i;
  })

-- the processor
unfoldable pub run_states : Discrete RunState
run_states =
    discrete_by (elim [ Run ↦ 0 | Wait ↦ 1 | Halted ↦ 2 ])
    (λ n. get_or (Run ∷ Wait ∷ []) n Halted)
    (elim [ Run ↦ refl | _ ↦ refl ]) numbers

unfoldable pub processors : Discrete Processor
processors a b = do
  counter ← same_field (λ p. p.counter) numbers a b
  words ← same_field (λ p. p.words) (lists_of numbers) a b
  run ← same_field (λ p. p.run) run_states a b
  stack_trap ← same_field (λ p. p.stack_trap) flags a b
  trace_trap ← same_field (λ p. p.trace_trap) flags a b
  yes (λ i. record {
    counter = counter i;
    words = words i;
    run = run i;
    stack_trap = stack_trap i;
    trace_trap = trace_trap i;
  })

-- what happens from outside, at a turn of a script
unfoldable pub events : Discrete Event
events =
    discrete_by
    (elim [
      | Key byte ↦ (0, byte)
      | Switches word ↦ (1, word)
      | Tick ↦ (2, 0)
      | PrinterDone ↦ (3, 0)
      | ReaderDone ↦ (4, 0)
      | PunchDone ↦ (5, 0)
      | DiskDone ↦ (6, 0)
      | Continue ↦ (7, 0)
    ])
    (λ (kind, value). get_or
    (Key value ∷ Switches value ∷ Tick ∷ PrinterDone ∷ ReaderDone ∷ PunchDone ∷ DiskDone ∷ [])
    kind Continue)
    (elim [ Key _ ↦ refl | _ ↦ refl ]) (pairs_of numbers numbers)
