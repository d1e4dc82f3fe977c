-- Laws of undo areas that are set anew, dropped or given up.
pub mod AreaSets
