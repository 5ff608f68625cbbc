pub mod NumeralLaws
pub mod SectionLaws
pub mod PackLaws
pub mod RunLaws
pub mod MaskLaws
pub mod CodeLaws
pub mod StoreLaws
pub mod CodingCases
