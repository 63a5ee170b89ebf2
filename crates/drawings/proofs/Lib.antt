pub mod XmlTexts
pub mod Widths
pub mod Lists
pub mod SvgForms
