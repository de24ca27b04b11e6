-- What a reader must believe of the reader of modules, in reading order. `Readings` is what `read_module` promises.

-- the text: its gaps and its items
pub mod Items
-- the grammar as data, and what it spells
pub mod Grammar
pub mod Spelling
-- bounds of the profile, what was given before, and which items pass or repeat these
pub mod Bounds
pub mod Repetitions
pub mod ItemFaults
-- what items mean: single ones, types, rows of sets, a module
pub mod ItemMeanings
pub mod TypeMeanings
pub mod RowMeanings
pub mod ModuleMeanings
-- which texts are modules but for their names, and the first wrong item of the others
pub mod Texts
-- names, recursion and depth
pub mod Names
pub mod Targets
pub mod Numbers
pub mod Graph
pub mod Paths
pub mod Judgement
-- readings and faults
pub mod Positions
pub mod Readings
-- what is so of each module that was read
pub mod Links
pub mod Modules
