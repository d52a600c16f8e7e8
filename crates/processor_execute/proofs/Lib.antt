-- `Every` is what holds of the machine after every instruction.
pub mod Every
