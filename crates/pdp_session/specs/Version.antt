-- The version of a session [P]: each begins in version 1, with one drive, and has eight drives in
-- version 2.
use Rattle.std.specs.Prelude.{nat_lt, if◌then◌else◌}
use Rattle.pdp_replay.specs.Past.{Past}
use Rattle.pdp_session.specs.declared.version.Version.{Version}
use Rattle.pdp_session.specs.declared.version.Version.TheVariants.{One, Two}

-- by the drives that there are
abbrev pub version_of : Past → Version
version_of past = if nat_lt 1 past.setup.drives then Two else One
