mod Descriptions
mod JsonTexts
