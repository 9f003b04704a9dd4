pub mod IrregularPage
