-- The registers as a person reads them: PDP-11 Peripherals Handbook, KL11, KW11-L, PC11 and RK11;
-- DEC PDP-11/40 Processor Handbook (1972), Memory management.
use Rattle.std.specs.Prelude.{ℕ, List, [], ◌∷◌, codes, length, map}
use Rattle.pdp_console.specs.declared.kl.KlRegister.TheVariants.{KeyboardStatus, KeyboardBuffer}
use Rattle.pdp_console.specs.declared.kl.KlRegister.TheVariants.{PrinterStatus}
use Rattle.pdp_kt11.specs.declared.apr.PageNumber.{PageNumber}
use Rattle.pdp_kt11.specs.declared.apr.PageNumber.TheVariants.{P0, P1, P2, P3, P4, P5, P6, P7}
use Rattle.pdp_kt11.specs.declared.apr.Space.TheVariants.{Kernel, User}
use Rattle.pdp_kt11.specs.declared.register.KtRegister.{KtRegister}
use Rattle.pdp_kt11.specs.declared.register.KtRegister.TheVariants.{Status0, Status2, Descriptor}
use Rattle.pdp_kt11.specs.declared.register.KtRegister.TheVariants.{Address}
use Rattle.pdp_rk11.specs.declared.register.RkRegister.TheVariants.{DriveStatus, Error, Control}
use Rattle.pdp_rk11.specs.declared.register.RkRegister.TheVariants.{WordCount, BusAddress}
use Rattle.pdp_rk11.specs.declared.register.RkRegister.TheVariants.{DiskAddress}
use Rattle.pdp_tape.specs.declared.pc11.Pc11Register.TheVariants.{ReaderStatus, ReaderBuffer}
use Rattle.pdp_tape.specs.declared.pc11.Pc11Register.TheVariants.{PunchStatus}
use Rattle.pdp_unibus.specs.Handbook.BusWorld.{BusWorld}
use Rattle.pdp_io_page.specs.Handbook.Register.{value_in}
use Rattle.pdp_io_page.specs.declared.io_page.IoPage.{IoPage}
use Rattle.pdp_unibus.specs.declared.show.device_registers.DeviceRegisters.{DeviceRegisters}
use Rattle.pdp_unibus.specs.declared.show.page_registers.PageRegisters.{PageRegisters}
use Rattle.pdp_io_page.specs.declared.register.Register.{Register}
use Rattle.pdp_io_page.specs.declared.register.Register.TheVariants.{Clock, Console, Disk, Mapping}
use Rattle.pdp_io_page.specs.declared.register.Register.TheVariants.{PaperTape, Switches}

-- the registers of the devices that are shown, in their order, each after its name
abbrev pub shown_registers : List (List ℕ × Register)
shown_registers =
    (codes "TKS", Console KeyboardStatus)
    ∷ (codes "TKB", Console KeyboardBuffer)
    ∷ (codes "TPS", Console PrinterStatus)
    ∷ (codes "LKS", Clock)
    ∷ (codes "PRS", PaperTape ReaderStatus)
    ∷ (codes "PRB", PaperTape ReaderBuffer)
    ∷ (codes "PPS", PaperTape PunchStatus)
    ∷ (codes "RKDS", Disk DriveStatus)
    ∷ (codes "RKER", Disk Error)
    ∷ (codes "RKCS", Disk Control)
    ∷ (codes "RKWC", Disk WordCount)
    ∷ (codes "RKBA", Disk BusAddress)
    ∷ (codes "RKDA", Disk DiskAddress)
    ∷ (codes "SWR", Switches)
    ∷ []

-- their names
abbrev pub shown_names : List (List ℕ)
shown_names = map (λ shown. shown.0) shown_registers

-- what reads of them would give, without the effect of a read
unfoldable pub devices_of : BusWorld → DeviceRegisters
devices_of w = record {
  words = map (λ shown. value_in shown.1 (length w.drives) w.io_page) shown_registers;
}

-- the registers of pages 0 to 7, on a bus with so many drives
abbrev pub of_each_page : (PageNumber → KtRegister) → ℕ → IoPage → List ℕ
of_each_page register drives b =
    value_in (Mapping (register P0)) drives b ∷ value_in (Mapping (register P1)) drives b
    ∷ value_in (Mapping (register P2)) drives b ∷ value_in (Mapping (register P3)) drives b
    ∷ value_in (Mapping (register P4)) drives b ∷ value_in (Mapping (register P5)) drives b
    ∷ value_in (Mapping (register P6)) drives b ∷ value_in (Mapping (register P7)) drives b ∷ []

-- what reads of them would give
unfoldable pub page_registers_of : BusWorld → PageRegisters
page_registers_of w =
    let b = w.io_page in
    let drives = length w.drives in
    record {
      status0 = value_in (Mapping Status0) drives b;
      status2 = value_in (Mapping Status2) drives b;
      kernel_descriptors = of_each_page (Descriptor Kernel) drives b;
      kernel_addresses = of_each_page (Address Kernel) drives b;
      user_descriptors = of_each_page (Descriptor User) drives b;
      user_addresses = of_each_page (Address User) drives b;
    }
