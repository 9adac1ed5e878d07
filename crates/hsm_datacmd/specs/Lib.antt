pub use Rattle.hsm_commands.specs.Plans
